-- The settings of a search, and what its calls promise. Rule 3.1. Definitions only.
use Rattle.std.specs.Prelude.{ℕ, Bool, List, Result, Float}
use Rattle.costs.specs.declared.CostFunction.{CostFunction}
use Rattle.costs.specs.declared.Penalty.{Penalty}
use Rattle.refusals.specs.declared.Refusal.{Refusal}
use Rattle.search_rules.specs.Limits.{least_minimum}
use Rattle.search_answer.specs.Outcome.{Areas}
use Rattle.search_answer.specs.Outcome as Search
use Rattle.pelt.specs.declared.Pelt.{Pelt}

-- the two constructors: the minimum length is the least that is accepted, or as given
abbrev pub with_min_segment_len : CostFunction → Penalty → ℕ → Pelt
with_min_segment_len cost penalty m = record { cost = cost; penalty = penalty; min_segment_len = m }

abbrev pub new_of : CostFunction → Penalty → Pelt
new_of cost penalty = with_min_segment_len cost penalty least_minimum

-- what `detect_multi` comes to, and with `strict` `detect_multi_strict`: the answer and the areas of the search with these settings
abbrev pub detected : Bool → Pelt → List Float → List ℕ → Areas → Result ℕ Refusal × Areas
detected strict p run lengths before = Search.detected strict p.cost p.penalty p.min_segment_len run lengths before
