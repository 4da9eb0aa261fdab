-- A search in plain numbers: which numbers stand for which settings, and what is told and left. Rules 8.1 and 8.2. Definitions only.
use Rattle.std.specs.Prelude.{ℕ, Bool, not, ◌&&◌, cond, List, ◌∷◌, Result, ltb, eqb, Float}
use Rattle.refusals.specs.declared.Refusal.{Refusal}
use Rattle.costs.specs.declared.CostFunction.{CostFunction}
use Rattle.costs.specs.declared.Penalty.{Penalty}
use Rattle.refusals.specs.Said.{said}
use Rattle.search_answer.specs.Outcome.{Areas, outcome_by, tests_of, found_in}
use Rattle.c_answers.specs.declared.Told.{Told}
use Rattle.c_answers.specs.Told.{told_of}

-- whether the numbers `cost` and `kind` stand for a cost and a penalty; any other is refusal 10
unfoldable pub known_numbers : ℕ → ℕ → Bool
known_numbers cost kind = ltb cost 2 && ltb kind 2

-- the cost function that the number `cost` stands for: 0 L2, 1 Normal
unfoldable pub cost_of : ℕ → CostFunction
cost_of cost = cond (eqb cost 0) CostFunction.L2 CostFunction.Normal

-- the penalty that the number `kind` stands for: 0 BIC, which does not look at `value`, 1 the custom penalty `value`
unfoldable pub penalty_of : ℕ → Float → Penalty
penalty_of kind value = cond (eqb kind 0) Penalty.Bic (Penalty.Custom value)

-- 10, and then the refusals of the search, 1 to 8
abbrev pub asked_tests : Bool → ℕ → ℕ → Float → ℕ → List Float → List ℕ → Areas → List (Bool × Refusal)
asked_tests strict cost kind value m run lengths before = (not (known_numbers cost kind), Refusal.Form) ∷ tests_of strict (penalty_of kind value) m run lengths before

-- the outcome of a search, with its answer told in numbers
abbrev pub told_outcome : Result ℕ Refusal × Areas → Told × Areas
told_outcome outcome = (told_of (said outcome.0), outcome.1)

-- what the search with these numbers comes to; all but the test of 10 is that of crate `search`
abbrev pub told_search : Bool → ℕ → ℕ → Float → ℕ → List Float → List ℕ → Areas → Told × Areas
told_search strict cost kind value m run lengths before =
    told_outcome (outcome_by (asked_tests strict cost kind value m run lengths before) (found_in (cost_of cost) (penalty_of kind value) m run lengths before) before)
