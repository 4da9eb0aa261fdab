-- A search that refuses with 8 is a strict one, and the place that it says is that of the first reading that is not finite. Assumes nothing.
use Prim.Native.Nat.{ℕ}
use mathlib.Core.Path.{◌≡◌, refl}
use mathlib.Core.Bool.{Bool, true, false, not, ◌&&◌}
use mathlib.Core.List.{List, [], ◌∷◌, ◌++◌}
use borrow.Author.Tests.{ltb-true}
use lib.Dec.{T, eqb, eqb_refl, ltb}
use lib.ListN.{length}
use lib.Ieee.{Float}
use lib.Ieee.Bits.{is_true}
use lib.Ieee.Fits.{and_l, and_r}
use Rattle.costs.specs.declared.Penalty.{Penalty}
use Rattle.refusals.specs.Stated.{stated}
use Rattle.refusals.specs.Tried.{tried, passed}
use Rattle.refusals.proofs.TriedLaws.{tried_passed}
use Rattle.std.specs.Prelude.{Result, Err}
use Rattle.refusals.specs.declared.Refusal.{Refusal}
use Rattle.readings.specs.Shape.{shape_tests, shaped_as, first_length, channels}
use Rattle.readings.specs.Gaps.{gap_to, channel_at, index_at}
use Rattle.readings.specs.FirstGap.{FirstGap}
use Rattle.readings.proofs.FirstGapLaws.{first_gap}
use Rattle.search_rules.specs.Limits.{least_minimum}
use Rattle.search_answer.specs.Tests.{bad_penalty, short_room, room_tests, search_tests}
use Rattle.search_answer.proofs.AdmissionLaws.{Shapely, shapely}

-- the answer 8
abbrev eight : ℕ → ℕ → Result ℕ Refusal
eight k i = Err (Refusal.NonFinite k i)

refusal_is : (r q : Refusal) → ◌≡◌ {A = Result ℕ Refusal} (Err r) (Err q) → r ≡ q
refusal_is r q e = cc

-- none of these tests refuses with `number`
unfoldable pub others : ℕ → List (Bool × Refusal) → Bool
others number [] = true
others number (t ∷ ts) = not (eqb (stated t.1).number number) && others number ts

-- a number is no other than itself
not_itself : (n : ℕ) → T (not (eqb n n)) → ⊥
not_itself n h = rw (is_true (eqb n n) (eqb_refl n)) at h

same_number : (q r : Refusal) → q ≡ r → T (not (eqb (stated r).number (stated q).number)) → ⊥
same_number q r e h = not_itself (stated r).number (rw e at h)

-- so where a refusal with that number is answered, none of them holds, and those after them give it
pub after_others : (q : Refusal) (ts us : List (Bool × Refusal)) (s : Result ℕ Refusal) → T (others (stated q).number ts) → Err q ≡ tried Err (ts ++ us) s → (passed ts ≡ true) × (Err q ≡ tried Err us s)
unfolding others tried passed
after_others q [] us s o e = (refl, e)
after_others q ((true, r) ∷ ts) us s o e = absurd (same_number q r (refusal_is q r e) (and_l (not (eqb (stated r).number (stated q).number)) (others (stated q).number ts) o))
after_others q ((false, r) ∷ ts) us s o e = after_others q ts us s (and_r (not (eqb (stated r).number (stated q).number)) (others (stated q).number ts) o) e

-- the place that is answered, with two names for its parts
same_place : (A : ℕ → ℕ → Type 0) (k i l j : ℕ) → eight k i ≡ eight l j → A l j → A k i
same_place A k i l j e a = let r = refusal_is (Refusal.NonFinite k i) (Refusal.NonFinite l j) e in let p : k ≡ l = cc in let q : i ≡ j = cc in rw (p, q) a

-- the search is strict, its channels fill the run, and this is the first gap
pub record Gap (strict : Bool) (run : List Float) (lengths : List ℕ) (k i : ℕ) : Type 0 where
  pub is_strict : strict ≡ true
  pub shape : Shapely run lengths (length lengths) (first_length lengths)
  pub first : FirstGap run (length lengths) (first_length lengths) k i

module _ (strict : Bool) (penalty : Penalty) (m : ℕ) (run : List Float) (lengths : List ℕ) (cuts floats indices : ℕ) (s : Result ℕ Refusal) (k i : ℕ) where
  pub refused_gap : eight k i ≡ tried Err (search_tests strict penalty m run lengths cuts floats indices) s → (eight k i ≡ s → ⊥) → Gap strict run lengths k i
  unfolding search_tests room_tests shape_tests shaped_as others tried
  refused_gap e other =
      let n = first_length lengths in
      let at = gap_to run (length run) in
      let room = room_tests strict run n (length lengths) cuts floats indices in
      let a = after_others (Refusal.NonFinite k i) ((bad_penalty penalty, Refusal.Penalty) ∷ (ltb m least_minimum, Refusal.MinLen) ∷ []) (shape_tests lengths (length run) ++ room) s tt e in
      let b = after_others (Refusal.NonFinite k i) (shape_tests lengths (length run)) room s tt a.1 in
      let c = after_others (Refusal.NonFinite k i) ((short_room n (length lengths) cuts floats indices, Refusal.Room) ∷ []) ((strict && ltb at (length run), Refusal.NonFinite (channel_at n at) (index_at n at)) ∷ []) s tt b.1 in
      let shape = shapely run lengths (channels (length lengths) n) (tried_passed Err (shape_tests lengths (length run)) _ b.0) in
      last shape strict (ltb at (length run)) refl (λ l. first_gap run (length lengths) n shape.few shape.short shape.fill (ltb-true at (length run) l)) c.1
    where
      last : Shapely run lengths (length lengths) (first_length lengths) → (t b : Bool) → ltb (gap_to run (length run)) (length run) ≡ b → let n = first_length lengths in let at = gap_to run (length run) in
          (ltb at (length run) ≡ true → FirstGap run (length lengths) n (channel_at n at) (index_at n at))
          → eight k i ≡ tried Err ((t && b, Refusal.NonFinite (channel_at n at) (index_at n at)) ∷ []) s → Gap t run lengths k i
      last shape true true l f e = record { is_strict = refl; shape = shape; first = same_place (FirstGap run (length lengths) (first_length lengths)) k i _ _ e (f l) }
      last shape true false l f e = absurd (other e)
      last shape false b l f e = absurd (other e)
