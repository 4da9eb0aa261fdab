-- Where a search answers with cuts, nothing refused it and the lent area has that many in its front; and which answers name a reading. Assumes nothing.
use Prim.Native.Nat.{ℕ}
use mathlib.Core.Path.{◌≡◌, refl, ap, ◌∙◌}
use mathlib.Core.Bool.{Bool, true, false}
use mathlib.Core.List.{List, [], ◌∷◌}
use mathlib.Core.Option.{Option, none, some}
use lib.ListN.{length, take, drop}
use lib.Seq.{take_at}
use lib.Ieee.{Float}
use Rattle.logic.proofs.Laws.{clash}
use Rattle.refusals.specs.Tried.{tried, passed}
use Rattle.refusals.proofs.TriedLaws.{tried_map, no_count}
use Rattle.refusals.specs.declared.Refusal.{Refusal}
use Rattle.std.specs.Prelude.{Result, Ok, Err}
use Rattle.costs.specs.declared.CostFunction.{CostFunction}
use Rattle.costs.specs.declared.Penalty.{Penalty}
use Rattle.search_answer.specs.Outcome.{Areas, found_answer, cuts_left, found_outcome, unchanged, outcome_by, tests_of, found_in, detected}
use Rattle.search_answer.proofs.RefusedGap.{Gap, refused_gap}

-- the answer of an outcome, and its areas
abbrev answer_of : Result ℕ Refusal × Areas → Result ℕ Refusal
answer_of o = o.0

abbrev areas_of : Result ℕ Refusal × Areas → Areas
areas_of o = o.1

-- ---- cuts
-- no test holds, and the outcome is what was found
pub counted_found : (ts : List (Bool × Refusal)) (found : Option (List ℕ)) (before after : Areas) (count : ℕ) → ◌≡◌ {A = Result ℕ Refusal × Areas} (Ok count, after) (outcome_by ts found before)
    → (passed ts ≡ true) × ◌≡◌ {A = Result ℕ Refusal × Areas} (Ok count, after) (found_outcome found before)
unfolding outcome_by tried passed
counted_found [] found before after count e = (refl, e)
counted_found ((true, r) ∷ ts) found before after count e = absurd (no_count r count (ap answer_of e))
counted_found ((false, r) ∷ ts) found before after count e = counted_found ts found before after count e

-- the cuts that were found, and where they stand
pub record Front (found : Option (List ℕ)) (count : ℕ) (after : Areas) : Type 0 where
  pub cuts : List ℕ
  pub are : found ≡ some cuts
  pub many : length cuts ≡ count
  pub stand : take count after.cuts ≡ cuts

pub front : (found : Option (List ℕ)) (before after : Areas) (count : ℕ) → ◌≡◌ {A = Result ℕ Refusal × Areas} (Ok count, after) (found_outcome found before) → Front found count after
unfolding found_outcome
front none before after count e = absurd (no_count Refusal.Pool count (ap answer_of e))
front (some cuts) before after count e =
    let answer : Ok count ≡ Ok (length cuts) = ap answer_of e in
    let long : length cuts ≡ count = cc in
    let left : after.cuts ≡ cuts_left (some cuts) before.cuts = ap (λ (a : Areas). a.cuts) (ap areas_of e) in
    record { cuts = cuts; are = refl; many = long; stand = ap (take count) left ∙ take_at cuts (drop (length cuts) before.cuts) count long }

-- ---- a place
-- no cuts and no refusal 9 name one
found_no_place : (found : Option (List ℕ)) (k i : ℕ) → Err (Refusal.NonFinite k i) ≡ found_answer found → ⊥
found_no_place (some cuts) k i e = clash cc
found_no_place none k i e = clash cc

module _ (strict : Bool) (cost : CostFunction) (penalty : Penalty) (m : ℕ) (run : List Float) (lengths : List ℕ) (before after : Areas) where
  pub detected_count : (count : ℕ) → ◌≡◌ {A = Result ℕ Refusal × Areas} (Ok count, after) (detected strict cost penalty m run lengths before) → length (take count after.cuts) ≡ count
  detected_count count d =
      let found = found_in cost penalty m run lengths before in
      let f = front found before after count (counted_found (tests_of strict penalty m run lengths before) found before after count d).1 in
      ap length f.stand ∙ f.many

  -- a search that refuses with 8 is strict, and says the first reading that is not finite
  pub detected_gap : (k i : ℕ) → ◌≡◌ {A = Result ℕ Refusal × Areas} (Err (Refusal.NonFinite k i), after) (detected strict cost penalty m run lengths before) → Gap strict run lengths k i
  unfolding outcome_by found_outcome
  detected_gap k i d =
      let found = found_in cost penalty m run lengths before in
      let tests = tests_of strict penalty m run lengths before in
      refused_gap strict penalty m run lengths (length before.cuts) (length before.floats) (length before.indices) (found_answer found) k i
      (ap answer_of d ∙ tried_map answer_of (unchanged before) tests (found_outcome found before)) (found_no_place found k i)
