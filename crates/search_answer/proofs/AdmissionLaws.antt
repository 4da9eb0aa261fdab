-- Laws of the tests: the first that holds refuses, and what is known once none does. Assumes nothing.
use Prim.Native.Nat.{ℕ, ◌*◌, ◌≤◌, ◌<◌}
use native.Mathlib.Nat.{not-suc-le-zero}
use mathlib.Core.Path.{◌≡◌, refl, sym, ap, ◌∙◌}
use mathlib.Core.Bool.{Bool, true, false, not, ◌||◌, false≢true}
use mathlib.Core.List.{List, [], ◌∷◌}
use borrow.Author.Tests.{lt-ltb, le-ltb, ltb-false, not-false}
use lib.Dec.{ltb}
use lib.ListN.{length}
use lib.Ieee.{Float}
use native.Mathlib.Omega.{arith}
use Rattle.logic.proofs.Laws.{clash}
use Rattle.std.specs.Prelude.{Result, Ok, Err}
use Rattle.costs.specs.declared.Penalty.{Penalty}
use Rattle.refusals.specs.Limits.{max_channels, max_readings}
use Rattle.refusals.specs.Tried.{tried, passed}
use Rattle.refusals.specs.Said.{answered, refusing}
use Rattle.refusals.proofs.TriedLaws.{tried_map, tried_passed, tried_append, passed_first, passed_rest, passed_left, passed_right}
use Rattle.refusals.specs.declared.Refusal.{Refusal}
use Rattle.readings.specs.Shape.{shape_tests, shaped_as, shaped, first_length, channels}
use Rattle.readings.specs.declared.Channels.{Channels}
use Rattle.readings.proofs.ShapeLaws.{same_channels, accepted, channels_fill}
use Rattle.search_rules.specs.Limits.{least_minimum}
use Rattle.search_rules.specs.Room.{cuts_for, room_fits}
use Rattle.search_rules.proofs.RoomLaws.{Roomy, roomy}
use Rattle.search_answer.specs.Tests.{bad_penalty, short_room, room_tests, search_tests, admitted_as}
use Rattle.search_answer.specs.Inner.Admitted.{Admitted}

-- ---- any list of tests
refused_not : {A : Type 0} {a : A} {r : Refusal} → ◌≡◌ {A = Result A Refusal} (Err r) (Ok a) → ⊥
refused_not e = clash cc

-- where a result is answered, no test holds
pub answered_passed : {A : Type 0} (ts : List (Bool × Refusal)) (result : A) {a : A} → tried Err ts (Ok result) ≡ Ok a → passed ts ≡ true
unfolding tried passed
answered_passed [] result e = refl
answered_passed ((true, r) ∷ ts) result e = absurd (refused_not e)
answered_passed ((false, r) ∷ ts) result e = answered_passed ts result e

-- where a refusal is answered, the same tests give it in any other kind of answer
pub refused_tried : {A B : Type 0} (refuse : Refusal → B) (ts : List (Bool × Refusal)) (other : B) (result : A) {r : Refusal} → tried Err ts (Ok result) ≡ Err r → refuse r ≡ tried refuse ts other
unfolding tried
refused_tried refuse [] other result e = absurd (refused_not (sym e))
refused_tried refuse ((true, q) ∷ ts) other result {r} e = let h : r ≡ q = cc in ap refuse h
refused_tried refuse ((false, q) ∷ ts) other result e = refused_tried refuse ts other result e

-- ---- 7
or_first : (a b : Bool) → (a || b) ≡ false → a ≡ false
or_first false b e = refl
or_first true b e = absurd (false≢true (sym e))

or_second : (a b : Bool) → (a || b) ≡ false → b ≡ false
or_second false b e = e
or_second true b e = absurd (false≢true (sym e))

room_of : (n k cuts floats indices : ℕ) → short_room n k cuts floats indices ≡ false → (cuts_for n ≤ cuts) × Roomy n k floats indices
unfolding short_room
room_of n k cuts floats indices e =
    let a = ltb cuts (cuts_for n) in
    let b = room_fits n k floats indices in
    (ltb-false cuts (cuts_for n) (or_first a (not b) e), roomy n k floats indices (not-false b (or_second a (not b) e)))

-- too little room is refused, whatever comes after
pub short_refused : (strict : Bool) (run : List Float) (n k cuts floats indices : ℕ) (c : Result Channels Refusal) → short_room n k cuts floats indices ≡ true → tried Err (room_tests strict run n k cuts floats indices) c ≡ Err Refusal.Room
unfolding tried room_tests
short_refused strict run n k cuts floats indices c e = rw e

-- ---- what the lengths say
-- as many channels as lengths, of the first one's readings; the rules' limits hold, and the channels fill the run
pub record Shapely (run : List Float) (lengths : List ℕ) (k n : ℕ) : Type 0 where
  pub counted : length lengths ≡ k
  pub first : first_length lengths ≡ n
  pub few : k ≤ max_channels
  pub short : n ≤ max_readings
  pub fill : k * n ≡ length run

-- the first of no lengths is 0
first_some : {k : ℕ} (lengths : List ℕ) → 0 < first_length lengths → length lengths ≡ k → 1 ≤ k
first_some [] h e = absurd (not-suc-le-zero h)
first_some (l ∷ lengths) h e = omega arith

-- the channels that are answered, whatever tests came before them
pub answered_channels : (ts : List (Bool × Refusal)) (lengths : List ℕ) (c : Channels) → tried Err ts (Ok (channels (length lengths) (first_length lengths))) ≡ Ok c → (length lengths ≡ c.count) × (first_length lengths ≡ c.length)
answered_channels ts lengths c e =
    let same = same_channels (sym (tried_passed Err ts _ (answered_passed ts _ e)) ∙ e) in
    (ap (λ (d : Channels). d.count) same, ap (λ (d : Channels). d.length) same)

pub shapely : (run : List Float) (lengths : List ℕ) (c : Channels) → shaped_as lengths (length run) ≡ Ok c → Shapely run lengths c.count c.length
unfolding shaped_as shape_tests
shapely run lengths c e =
    let a = accepted lengths (length run) c e in
    record {
      counted = a.counted;
      first = a.first;
      few = rw (← a.counted) a.few;
      short = rw (← a.first) a.short;
      fill = channels_fill run lengths c e;
    }

-- the limits alone, for the code
pub shape_limits : (run : ℕ) (lengths : List ℕ) (c : Channels) → shaped_as lengths run ≡ Ok c → (c.length ≤ max_readings) × (c.count ≤ max_channels)
shape_limits run lengths c e = let a = accepted lengths run c e in (rw (← a.first) a.short, rw (← a.counted) a.few)

-- ---- all of them
module _ (strict : Bool) (penalty : Penalty) (m : ℕ) (run : List Float) (lengths : List ℕ) (cuts floats indices : ℕ) where
  pub penalty_first : bad_penalty penalty ≡ true → admitted_as strict penalty m run lengths cuts floats indices ≡ Err Refusal.Penalty
  unfolding admitted_as search_tests tried
  penalty_first e = rw e

  pub least_second : bad_penalty penalty ≡ false → m < least_minimum → admitted_as strict penalty m run lengths cuts floats indices ≡ Err Refusal.MinLen
  unfolding admitted_as search_tests tried
  least_second e h = rw (e, lt-ltb m least_minimum h)

  -- the tests of the lengths, and those after them where they pass
  after_two : bad_penalty penalty ≡ false → least_minimum ≤ m
      → admitted_as strict penalty m run lengths cuts floats indices
      ≡ tried Err (shape_tests lengths (length run)) (tried Err (room_tests strict run (first_length lengths) (length lengths) cuts floats indices) (Ok (channels (length lengths) (first_length lengths))))
  unfolding admitted_as search_tests tried
  after_two e h = rw (e, le-ltb m least_minimum h) (tried_append Err (shape_tests lengths (length run)) _ _)

  pub shape_third : (r : Refusal) → bad_penalty penalty ≡ false → least_minimum ≤ m → shaped_as lengths (length run) ≡ Err r → admitted_as strict penalty m run lengths cuts floats indices ≡ Err r
  unfolding shaped_as
  shape_third r e h l = after_two e h ∙ sym (refused_tried Err (shape_tests lengths (length run)) _ _ l)

  pub room_last : (c : Channels) → bad_penalty penalty ≡ false → least_minimum ≤ m → shaped_as lengths (length run) ≡ Ok c
      → admitted_as strict penalty m run lengths cuts floats indices ≡ tried Err (room_tests strict run c.length c.count cuts floats indices) (Ok c)
  unfolding shaped_as
  room_last c e h l =
      let same = answered_channels (shape_tests lengths (length run)) lengths c l in
      after_two e h
      ∙ tried_passed Err (shape_tests lengths (length run)) _ (answered_passed (shape_tests lengths (length run)) _ l)
      ∙ rw (same.0, same.1) refl

  -- what an admitted search may rely on
  pub admitted_fits : (c : Channels) → admitted_as strict penalty m run lengths cuts floats indices ≡ Ok c → Admitted (length run) c.length c.count m cuts floats indices
  unfolding admitted_as search_tests room_tests shaped_as
  admitted_fits c e =
      let ok = answered_passed (search_tests strict penalty m run lengths cuts floats indices) _ e in
      let same = answered_channels (search_tests strict penalty m run lengths cuts floats indices) lengths c e in
      let counted = same.0 in
      let first = same.1 in
      let ok₂ = passed_rest _ _ ok in
      let ok₃ = passed_rest _ _ ok₂ in
      let shape_ok = passed_left (shape_tests lengths (length run)) _ ok₃ in
      let s = shapely run lengths (channels (length lengths) (first_length lengths)) (tried_passed Err (shape_tests lengths (length run)) _ shape_ok) in
      let room : short_room (first_length lengths) (length lengths) cuts floats indices ≡ false = passed_first _ _ (passed_right (shape_tests lengths (length run)) _ ok₃) in
      record {
        least = ltb-false m least_minimum (passed_first _ _ ok₂);
        few = rw (← counted) s.few;
        short = rw (← first) s.short;
        readings = rw (← counted, ← first) (rw s.fill (omega arith));
        some = λ h. first_some lengths (rw (← first) at h) counted;
        cuts_room = rw (← first) (room_of _ _ _ _ _ room).0;
        floats_room = rw (← counted, ← first) (room_of _ _ _ _ _ room).1.floats;
        indices_room = rw (← first) (room_of _ _ _ _ _ room).1.indices;
      }

  -- ---- in the rules' numbers
  pub admitted_said : shaped (admitted_as strict penalty m run lengths cuts floats indices) ≡ tried refusing (search_tests strict penalty m run lengths cuts floats indices) (answered (length lengths ∷ first_length lengths ∷ []))
  unfolding admitted_as
  admitted_said = tried_map shaped Err (search_tests strict penalty m run lengths cuts floats indices) (Ok (channels (length lengths) (first_length lengths)))
