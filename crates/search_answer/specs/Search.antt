-- The cuts of a search that nothing refused before 9. Rules 3.2, 3.3 and 3.7. Definitions only.
use Rattle.std.specs.Prelude.{ℕ, ◌*◌, Bool, true, false, List, [], leb, ltb, Float}
use Rattle.std.proofs.Math.Option.{Option, none, some}
use Rattle.floats.specs.Numbers.{◌≤ᶠ◌, +0}
use Rattle.noise.specs.Noise.{noise_sum_to}
use Rattle.costs.specs.Penalties.{penalty_of}
use Rattle.costs.specs.declared.CostFunction.{CostFunction}
use Rattle.costs.specs.declared.CostFunction.TheVariants.{L2, Normal}
use Rattle.search_rules.specs.Limits.{functional_channels}
use Rattle.search_rules.specs.Inequality.{price, predecessors}
use Rattle.search_rules.specs.Functional.{Task, functional}
use Rattle.backtrack.specs.Cuts.{cuts_of}
use Rattle.costs.specs.declared.Penalty.{Penalty}

-- the value of `penalty` for `k` channels of `n` readings in `run`
unfoldable pub penalty_value : CostFunction → Penalty → List Float → ℕ → ℕ → Float
penalty_value cost penalty run n k = penalty_of penalty cost n k (noise_sum_to run n k)

-- by the inequality search
unfoldable pub pruned_cuts : CostFunction → List Float → ℕ → ℕ → ℕ → Float → List ℕ
pruned_cuts cost run n k m penalty = cuts_of (predecessors (price cost run n k) penalty m n) n

-- by the functional search; nothing where its list of living candidates would hold more than the slots, which is 9
unfoldable pub functional_cuts : Task → ℕ → Option (List ℕ)
functional_cuts task slots = let s = functional task in elim (leb s.peak slots) [ true ↦ some (cuts_of s.last task.n) | false ↦ none ]

-- L2 on one or two channels takes the functional search, all else the inequality search
unfoldable pub takes_functional : CostFunction → ℕ → Bool
takes_functional L2 k = leb k functional_channels
takes_functional Normal k = false

unfoldable pub cuts_by : CostFunction → List Float → ℕ → ℕ → ℕ → Float → ℕ → Option (List ℕ)
cuts_by cost run n k m penalty slots = elim (takes_functional cost k) [
  | true ↦ functional_cuts (record { run = run; n = n; channels = k; m = m; penalty = penalty }) slots
  | false ↦ some (pruned_cuts cost run n k m penalty)
]

-- a penalty at or below 0 gives no cuts; a NaN penalty goes on
unfoldable pub cuts_with : CostFunction → List Float → ℕ → ℕ → ℕ → Float → ℕ → Option (List ℕ)
cuts_with cost run n k m penalty slots = elim (penalty ≤ᶠ +0) [ true ↦ some [] | false ↦ cuts_by cost run n k m penalty slots ]

-- n below twice the minimum length: no cuts
unfoldable pub cuts_found : CostFunction → Penalty → ℕ → List Float → ℕ → ℕ → ℕ → Option (List ℕ)
cuts_found cost penalty m run n k slots = elim (ltb n (2 * m)) [ true ↦ some [] | false ↦ cuts_with cost run n k m (penalty_value cost penalty run n k) slots ]
