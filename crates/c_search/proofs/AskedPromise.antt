-- What programs in other languages may rely on of a search: where 0 and a count are told, promise 2 of that many cuts in the front of the area; where 8, a channel and an index are told, that reading is the first that is not finite; where 9 is told, there were fewer slots than readings a channel.
-- Assumes nothing.
use mathlib.Core.Path.{◌≡◌, sym, ap, ap₂}
use Prim.Native.Nat.{ℕ, ◌/◌, ◌<◌}
use native.Mathlib.Omega.{arith}
use mathlib.Core.Bool.{Bool, true, false, not}
use mathlib.Core.List.{List, ◌∷◌}
use mathlib.Core.Option.{Option}
use lib.ListN.{length, take}
use lib.Ieee.{Float}
use Rattle.logic.proofs.Laws.{clash}
use Rattle.refusals.specs.Tried.{tried}
use Rattle.refusals.specs.Said.{said}
use Rattle.std.specs.Prelude.{Result, Ok, Err}
use Rattle.refusals.specs.declared.Refusal.{Refusal}
use Rattle.refusals.proofs.TriedLaws.{no_count}
use Rattle.readings.specs.Shape.{first_length}
use Rattle.readings.specs.FirstGap.{FirstGap}
use Rattle.search_rules.specs.Limits.{slot_floats}
use Rattle.search_answer.specs.Outcome.{Areas, outcome_by, tests_of, found_in, detected}
use Rattle.search_answer.specs.Promise.{Cut}
use Rattle.search_answer.proofs.CutLaws.{detected_cuts}
use Rattle.search_answer.proofs.FrontLaws.{detected_count, detected_gap}
use Rattle.search_answer.proofs.SlotLaws.{detected_slots}
use Rattle.c_answers.specs.declared.Told.{Told}
use Rattle.c_answers.specs.Told.{told_as, told_of}
use Rattle.c_answers.proofs.ReadBack.{refusal_told, gap_told, pool_told}
use Rattle.c_search.specs.Asked.{known_numbers, cost_of, penalty_of, asked_tests, told_search}

-- where the answer is not the refusal of a first test, the search is the one without it
without : (r : Result ℕ Refusal) (after before : Areas) (found : Option (List ℕ)) (first : Bool) (why : Refusal) (tests : List (Bool × Refusal)) → (r ≡ Err why → ⊥)
    → ◌≡◌ {A = Result ℕ Refusal × Areas} (r, after) (outcome_by ((first, why) ∷ tests) found before) → ◌≡◌ {A = Result ℕ Refusal × Areas} (r, after) (outcome_by tests found before)
unfolding outcome_by tried
without r after before found true why tests other e = absurd (other (ap (λ (o : Result ℕ Refusal × Areas). o.0) e))
without r after before found false why tests other e = e

-- what is told names the answer
cuts_told : (r : Result ℕ Refusal) (count : ℕ) → told_as 0 count 0 0 ≡ told_of (said r) → r ≡ Ok count
unfolding told_of
cuts_told (Ok n) count e = ap Ok (sym (ap (λ (t : Told). t.count) e))
cuts_told (Err r) count e = absurd (refusal_told r count 0 0 e)

place_told : (r : Result ℕ Refusal) (k i : ℕ) → told_as 8 0 k i ≡ told_of (said r) → r ≡ Err (Refusal.NonFinite k i)
unfolding told_of
place_told (Ok n) k i e = absurd (let z : 8 ≡ 0 = ap (λ (t : Told). t.number) e in omega (arith, z))
place_told (Err r) k i e = ap Err (gap_told r k i e)

slots_told : (r : Result ℕ Refusal) → told_as 9 0 0 0 ≡ told_of (said r) → r ≡ Err Refusal.Pool
unfolding told_of
slots_told (Ok n) e = absurd (let z : 9 ≡ 0 = ap (λ (t : Told). t.number) e in omega (arith, z))
slots_told (Err r) e = ap Err (pool_told r e)

-- a refusal with a place, or for too few slots, is not refusal 10
gap_no_form : (k i : ℕ) → ◌≡◌ {A = Result ℕ Refusal} (Err (Refusal.NonFinite k i)) (Err Refusal.Form) → ⊥
gap_no_form k i e = clash cc

pool_no_form : ◌≡◌ {A = Result ℕ Refusal} (Err Refusal.Pool) (Err Refusal.Form) → ⊥
pool_no_form e = clash cc

module _ (strict : Bool) (cost kind : ℕ) (value : Float) (m : ℕ) (run : List Float) (lengths : List ℕ) (before after : Areas) where
  abbrev answered : Result ℕ Refusal × Areas
  answered = outcome_by (asked_tests strict cost kind value m run lengths before) (found_in (cost_of cost) (penalty_of kind value) m run lengths before) before

  -- the search behind it, where its answer is not refusal 10
  behind : (t : Told) (r : Result ℕ Refusal) → (r ≡ Err Refusal.Form → ⊥) → ◌≡◌ {A = Told × Areas} (t, after) (told_search strict cost kind value m run lengths before) → answered.0 ≡ r
      → ◌≡◌ {A = Result ℕ Refusal × Areas} (r, after) (detected strict (cost_of cost) (penalty_of kind value) m run lengths before)
  behind t r other a e =
      without r after before (found_in (cost_of cost) (penalty_of kind value) m run lengths before) (not (known_numbers cost kind)) Refusal.Form (tests_of strict (penalty_of kind value) m run lengths before) other
      (ap₂ (λ (x : Result ℕ Refusal) (y : Areas). (x, y)) (sym e) (ap (λ (o : Told × Areas). o.1) a))

  pub told_cuts : (count : ℕ) → ◌≡◌ {A = Told × Areas} (told_as 0 count 0 0, after) (told_search strict cost kind value m run lengths before)
      → (length (take count after.cuts) ≡ count) × Cut m (first_length lengths) (take count after.cuts)
  told_cuts count a =
      let d = behind (told_as 0 count 0 0) (Ok count) (no_count Refusal.Form count) a (cuts_told answered.0 count (ap (λ (o : Told × Areas). o.0) a)) in
      (detected_count strict (cost_of cost) (penalty_of kind value) m run lengths before after count d, detected_cuts strict (cost_of cost) (penalty_of kind value) m run lengths before after count d)

  pub told_gap : (k i : ℕ) → ◌≡◌ {A = Told × Areas} (told_as 8 0 k i, after) (told_search strict cost kind value m run lengths before) → (strict ≡ true) × FirstGap run (length lengths) (first_length lengths) k i
  told_gap k i a =
      let d = behind (told_as 8 0 k i) (Err (Refusal.NonFinite k i)) (gap_no_form k i) a (place_told answered.0 k i (ap (λ (o : Told × Areas). o.0) a)) in
      let g = detected_gap strict (cost_of cost) (penalty_of kind value) m run lengths before after k i d in
      (g.is_strict, g.first)

  pub told_slots : ◌≡◌ {A = Told × Areas} (told_as 9 0 0 0, after) (told_search strict cost kind value m run lengths before) → length before.pool / slot_floats < first_length lengths
  told_slots a =
      let d = behind (told_as 9 0 0 0) (Err Refusal.Pool) pool_no_form a (slots_told answered.0 (ap (λ (o : Told × Areas). o.0) a)) in
      detected_slots strict (cost_of cost) (penalty_of kind value) m run lengths before after d
