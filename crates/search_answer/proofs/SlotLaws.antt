-- Slots that always suffice: a search over channels of n readings with n slots never answers 9. Assumes nothing.
use Prim.Native.Nat.{ℕ, ◌*◌, ◌/◌, ◌≤◌, ◌<◌}
use mathlib.Core.Path.{◌≡◌, refl, ap, ◌∙◌}
use mathlib.Core.Bool.{Bool, true, false}
use mathlib.Core.List.{List, []}
use mathlib.Core.Option.{Option, none, some}
use borrow.Author.Tests.{ltb-false, ltb-true}
use native.Mathlib.Omega.{arith}
use lib.Dec.{leb, ltb}
use lib.ListN.{length}
use lib.Ieee.{Float}
use Rattle.logic.proofs.Laws.{clash}
use Rattle.floats.specs.Numbers.{◌≤ᶠ◌, +0}
use Rattle.backtrack.specs.Cuts.{cuts_of}
use Rattle.costs.specs.declared.CostFunction.{CostFunction}
use Rattle.costs.specs.declared.Penalty.{Penalty}
use Rattle.refusals.specs.Tried.{tried}
use Rattle.refusals.proofs.TriedLaws.{tried_map, passed_first, passed_rest}
use Rattle.std.specs.Prelude.{Result, Err}
use Rattle.refusals.specs.declared.Refusal.{Refusal}
use Rattle.readings.specs.Shape.{shape_tests, first_length}
use Rattle.search_rules.specs.Limits.{least_minimum, slot_floats}
use Rattle.search_rules.specs.Functional.{Task, functional}
use Rattle.search_rules.proofs.PeakLaws.{n_slots}
use Rattle.search_answer.specs.Tests.{room_tests, search_tests}
use Rattle.search_answer.specs.Search.{penalty_value, pruned_cuts, functional_cuts, takes_functional, cuts_by, cuts_with, cuts_found}
use Rattle.search_answer.specs.Outcome.{Areas, found_answer, found_outcome, unchanged, outcome_by, tests_of, found_in, detected}
use Rattle.search_answer.proofs.RefusedGap.{others, after_others}

-- where one of two is nothing and the first is something, it is the second, and the test does not hold
pick : (b : Bool) (cuts : List ℕ) (x : Option (List ℕ)) → ◌≡◌ {A = Option (List ℕ)} (elim b [ true ↦ some cuts | false ↦ x ]) none → (b ≡ false) × (x ≡ none)
pick true cuts x e = absurd (clash cc)
pick false cuts x e = (refl, e)

-- and the other way round
pick_first : (b : Bool) (cuts : List ℕ) (x : Option (List ℕ)) → ◌≡◌ {A = Option (List ℕ)} (elim b [ true ↦ x | false ↦ some cuts ]) none → x ≡ none
pick_first true cuts x e = e
pick_first false cuts x e = absurd (clash cc)

-- with n slots there are always cuts, or none to find, but never too few slots
enough : (cost : CostFunction) (penalty : Penalty) (m : ℕ) (run : List Float) (n k slots : ℕ) → least_minimum ≤ m → n ≤ slots → cuts_found cost penalty m run n k slots ≡ none → ⊥
unfolding cuts_found cuts_with cuts_by functional_cuts
enough cost penalty m run n k slots least room e =
    let value = penalty_value cost penalty run n k in
    let task : Task = record { run = run; n = n; channels = k; m = m; penalty = value } in
    let a = pick (ltb n (2 * m)) [] (cuts_with cost run n k m value slots) e in
    let b = pick (value ≤ᶠ +0) [] (cuts_by cost run n k m value slots) a.1 in
    let c = pick_first (takes_functional cost k) (pruned_cuts cost run n k m value) (functional_cuts task slots) b.1 in
    let long : 2 * m ≤ n = ltb-false n (2 * m) a.0 in
    let d = n_slots task slots least (omega (arith, least, long)) room in
    pick_none (leb (functional task).peak slots) (cuts_of (functional task).last n) c d
  where
    pick_none : (b : Bool) (cuts : List ℕ) → ◌≡◌ {A = Option (List ℕ)} (elim b [ true ↦ some cuts | false ↦ none ]) none → b ≡ true → ⊥
    pick_none true cuts e h = clash cc
    pick_none false cuts e h = clash cc

-- the answer of an outcome
abbrev answer_of : Result ℕ Refusal × Areas → Result ℕ Refusal
answer_of o = o.0

-- 9 is answered where nothing is found
nothing_found : (found : Option (List ℕ)) → Err Refusal.Pool ≡ found_answer found → found ≡ none
nothing_found none e = refl
nothing_found (some cuts) e = absurd (clash cc)

module _ (strict : Bool) (cost : CostFunction) (penalty : Penalty) (m : ℕ) (run : List Float) (lengths : List ℕ) (before after : Areas) where
  pub detected_slots : ◌≡◌ {A = Result ℕ Refusal × Areas} (Err Refusal.Pool, after) (detected strict cost penalty m run lengths before) → length before.pool / slot_floats < first_length lengths
  unfolding outcome_by found_outcome search_tests shape_tests room_tests others tried
  detected_slots d =
      let found = found_in cost penalty m run lengths before in
      let tests = tests_of strict penalty m run lengths before in
      let said = ap answer_of d ∙ tried_map answer_of (unchanged before) tests (found_outcome found before) in
      let a = after_others Refusal.Pool tests [] (found_answer found) tt said in
      let least = ltb-false m least_minimum (passed_first _ _ (passed_rest _ _ a.0)) in
      by_cases (length before.pool / slot_floats) (first_length lengths) (λ room. enough cost penalty m run (first_length lengths) (length lengths) (length before.pool / slot_floats) least room (nothing_found found a.1))
    where
      by_cases : (a b : ℕ) → (b ≤ a → ⊥) → a < b
      by_cases a b h = go (ltb a b) refl
        where
          go : (t : Bool) → ltb a b ≡ t → a < b
          go true e = ltb-true a b e
          go false e = absurd (h (ltb-false a b e))
