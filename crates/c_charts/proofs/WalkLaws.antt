-- A chart's walk over a series, for any lent columns: their room stays, the records that are admitted have room, and one reading more. Assumes nothing.
use mathlib.Core.Path.{◌≡◌, refl, ap, ◌∙◌}
use Prim.Native.Nat.{ℕ, zero, suc, ◌+◌, ◌≤◌, ◌<◌}
use mathlib.Core.Bool.{Bool}
use mathlib.Core.List.{List}
use native.Mathlib.Numerals.{add-one}
use native.Mathlib.Omega.{arith}
use lib.ListN.{length, set}
use lib.Ieee.{Float}
use Rattle.std.specs.Borrow.{MutBor}
use Rattle.std.specs.Prelude.{Result}
use Rattle.std.specs.Result.{result_unwrap_or}
use Rattle.refusals.specs.Tried.{count_of}
use Rattle.refusals.specs.declared.Refusal.{Refusal}
use Rattle.charts.specs.Answers.{admitted_as}
use Rattle.charts.specs.Runs.{state_at, record_at, records, following, column}
use Rattle.charts.proofs.Answers.{Fits, counted_fits}
use Rattle.charts.proofs.Runs.{state_more}
use Rattle.charts.proofs.Columns.{one_filled}
use Rattle.c_charts.specs.Inner.Walk.{puts, set_in, column_in}
use Rattle.c_charts.proofs.Lengths.{count_or}

-- what is known as the loop begins, of the answer for that room and its count `k`
pub record Begun (ts : List (Bool × Refusal)) (n room k : ℕ) (answer : Result ℕ Refusal) : Type 0 where
  pub answered : answer ≡ admitted_as ts n room
  pub counted : k ≡ count_of (admitted_as ts n room)
  pub fits : Fits n room k

pub begun : (ts : List (Bool × Refusal)) (n room k asked : ℕ) (answer : Result ℕ Refusal) → asked ≡ room → answer ≡ admitted_as ts n asked → k ≡ result_unwrap_or answer 0 → Begun ts n room k answer
begun ts n room k asked answer r e f =
    let a : answer ≡ admitted_as ts n room = e ∙ ap (admitted_as ts n) r in
    let c : k ≡ count_of answer = f ∙ count_or answer in
    record { answered = a; counted = c ∙ ap count_of a; fits = counted_fits ts n room answer k a c }

module _ {C S D W : Type 0} (shown : S → D) (start : C → S) (step : C → S → ℕ → Float → S) (put : W → ℕ → D → W) (c : C) (xs : List Float) where
  -- after `i` readings the state is `s`, and the columns `w` have become `w'`
  pub record Walking (w : W) (s : S) (i : ℕ) (w' : W) : Type 0 where
    pub state : s ≡ state_at shown start step c xs i
    pub written : w' ≡ puts shown start step put c xs i w

  pub one_put : (w : W) (s s' : S) (i : ℕ) (w' : W) → Walking w s i w' → i < length xs → s' ≡ following step c xs i s → Walking w s' (i + 1) (put w' i (shown s'))
  one_put w s s' i w' r reads next =
      let moves = state_more shown start step c xs i s s' r.state reads next in
      record { state = rw add-one moves; written = rw (add-one, r.written, moves) refl }

  room_stays : (room : W → ℕ) → ((w : W) (i : ℕ) (row : D) → room (put w i row) ≡ room w) → (w : W) (n : ℕ) → room (puts shown start step put c xs n w) ≡ room w
  room_stays room keeps w zero = refl
  room_stays room keeps w (suc n) = keeps (puts shown start step put c xs n w) n (record_at shown start step c xs n) ∙ room_stays room keeps w n

  -- so that there is room for one record more
  pub room_left : (room : W → ℕ) → ((w : W) (i : ℕ) (row : D) → room (put w i row) ≡ room w) → (w : W) (s : S) (i : ℕ) (w' : W) → Walking w s i w' → i < room w → i < room w'
  room_left room keeps w s i w' r below = rw (r.written, room_stays room keeps w i) below

  -- an array `at` among the columns, to which a turn writes the `field` of its record
  pub column_left : {A : Type 0} (at : W → MutBor (List A)) (field : D → A) (fallback : A) → ((w : W) (i : ℕ) (row : D) → at (put w i row) ≡ set_in (at w) i (field row))
      → (w : W) (n : ℕ) → n ≤ length (at w).now → at (puts shown start step put c xs n w) ≡ column_in field (records shown start step c xs n) (at w)
  column_left at field fallback writes w zero h = refl
  column_left {A} at field fallback writes w (suc n) h =
      let s = state_at shown start step c xs (suc n) in
      let before = column_in field (records shown start step c xs n) (at w) in
      let more : set before.now n (field (shown s)) ≡ column field (records shown start step c xs (n + 1)) (at w).now = one_filled {C = C} {S = S} {D = D} shown start step c xs field fallback n s refl (at w).now before.now (omega (arith, h)) refl in
      writes (puts shown start step put c xs n w) n (shown s)
      ∙ ap (λ (r : MutBor (List A)). set_in r n (field (shown s))) (column_left at field fallback writes w n (omega (arith, h)))
      ∙ ap (λ (l : List A). record (at w) { now = l }) (rw add-one at more)
