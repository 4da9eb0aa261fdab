-- For the private functions: which penalty asks for the noise, and what the backtrack leaves. Definitions only.
use Rattle.std.specs.Prelude.{ℕ, ◌+◌, Bool, true, false, List}
use Rattle.costs.specs.declared.CostFunction.{CostFunction}
use Rattle.costs.specs.declared.CostFunction.TheVariants.{L2, Normal}
use Rattle.costs.specs.declared.Penalty.{Penalty}
use Rattle.areas.specs.Cleared.{Cleared}
use Rattle.backtrack.specs.Backtracked.{Backtracked}

-- BIC for L2 is worked out from the noise
unfoldable pub asks_noise : Penalty → CostFunction → Bool
asks_noise (Penalty.Custom v) cost = false
asks_noise Penalty.Bic L2 = true
asks_noise Penalty.Bic Normal = false

-- `r` is how many cuts of `n` readings there are by the predecessors at the front of `indices`; they stand in the front of `cuts'`, and the predecessors are zero in `indices'`
pub record CutBack (n : ℕ) (cuts cuts' indices indices' : List ℕ) (r : ℕ) : Type 0 where
  pub back : Backtracked indices n cuts cuts' r
  pub cleared : Cleared 0 indices indices' 0 (n + 1)
