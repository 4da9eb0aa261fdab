-- What a walk leaves in the arrays of a CUSUM chart is the outcome, behind the same references. Assumes nothing.
use mathlib.Core.Path.{◌≡◌, refl, ap, ◌∙◌}
use Prim.Native.Nat.{ℕ, ◌≤◌}
use mathlib.Core.Bool.{Bool}
use native.Mathlib.Omega.{arith}
use mathlib.Core.List.{List}
use lib.ListN.{length}
use lib.Ieee.{Float, nan}
use Rattle.std.specs.Prelude.{Result}
use Rattle.refusals.specs.Limits.{max_readings}
use Rattle.refusals.specs.Tried.{count_of}
use Rattle.refusals.specs.declared.Refusal.{Refusal}
use Rattle.charts.specs.Answers.{admitted_as}
use Rattle.charts.proofs.Answers.{within_both, few_records}
use Rattle.cusum.specs.declared.Cusum.{Cusum}
use Rattle.cusum.specs.Chart.{in_range, tests_of, records, shown_of, start_state, next_state}
use Rattle.c_charts.specs.declared.cusum_columns.CusumColumns.{CusumColumns}
use Rattle.c_charts.specs.CusumColumns.{upper_of, lower_of, side_byte, index_of, room_of}
use Rattle.c_charts.specs.Inner.CusumPut.{room_in, put_in}
use Rattle.c_charts.specs.Inner.Walk.{all_put, column_in}
use Rattle.c_charts.proofs.Lengths.{shortest_least}
use Rattle.c_charts.proofs.WalkLaws.{column_left}

-- every array has room for `n` records
pub record Room (n : ℕ) (upper lower : List Float) (side index : List ℕ) : Type 0 where
  pub upper_room : n ≤ length upper
  pub lower_room : n ≤ length lower
  pub side_room : n ≤ length side
  pub index_room : n ≤ length index

-- the records that are written have room
pub written_room : (ts : List (Bool × Refusal)) (n : ℕ) (upper lower : List Float) (side index : List ℕ) → let k = count_of (admitted_as ts n (room_of upper lower side index)) in (k ≤ n) × Room k upper lower side index
written_room ts n upper lower side index =
    let k = within_both ts n (room_of upper lower side index) in
    let s = shortest_least (length upper) (length lower) (length side) (length index) in
    (k.0, record { upper_room = omega (arith, k.1, s.0); lower_room = omega (arith, k.1, s.1); side_room = omega (arith, k.1, s.2); index_room = omega (arith, k.1, s.3) })

-- what is known as the loop begins, of the answer for that room and its count `k`
pub record Begun (ts : List (Bool × Refusal)) (n k : ℕ) (upper lower : List Float) (side index : List ℕ) (answer : Result ℕ Refusal) : Type 0 where
  pub answered : answer ≡ admitted_as ts n (room_of upper lower side index)
  pub counted : k ≡ count_of (admitted_as ts n (room_of upper lower side index))
  pub readings : k ≤ n
  pub room : Room k upper lower side index
  pub few : k ≤ max_readings

pub begun : (ts : List (Bool × Refusal)) (n k room : ℕ) (upper lower : List Float) (side index : List ℕ) (answer : Result ℕ Refusal) → room ≡ room_of upper lower side index → answer ≡ admitted_as ts n room → k ≡ count_of answer → Begun ts n k upper lower side index answer
begun ts n k room upper lower side index answer r e f =
    let a : answer ≡ admitted_as ts n (room_of upper lower side index) = e ∙ ap (admitted_as ts n) r in
    let c : k ≡ count_of (admitted_as ts n (room_of upper lower side index)) = f ∙ ap count_of a in
    let w = written_room ts n upper lower side index in
    record { answered = a; counted = c; readings = rw c w.0; room = rw c w.1; few = rw c (few_records ts n (room_of upper lower side index)) }

-- the arrays `s` with the fields of the records that are admitted at their fronts
abbrev pub arrays_left : Cusum → List Float → CusumColumns → CusumColumns
arrays_left c xs s =
    let shown = records c xs (count_of (admitted_as (tests_of c) (length xs) (room_in s))) in
    record { s_upper = column_in upper_of shown s.s_upper; s_lower = column_in lower_of shown s.s_lower; side = column_in side_byte shown s.side; index = column_in index_of shown s.index }

pub walked : (c : Cusum) (xs : List Float) (s w : CusumColumns) → w ≡ all_put in_range shown_of start_state next_state put_in room_in c xs s → w ≡ arrays_left c xs s
unfolding tests_of
walked c xs s w e =
    let n = count_of (admitted_as (tests_of c) (length xs) (room_in s)) in
    let room = (written_room (tests_of c) (length xs) s.s_upper.now s.s_lower.now s.side.now s.index.now).1 in
    let upper = column_left shown_of start_state next_state put_in c xs (λ w. w.s_upper) upper_of nan (λ w i row. refl) s n room.upper_room in
    let lower = column_left shown_of start_state next_state put_in c xs (λ w. w.s_lower) lower_of nan (λ w i row. refl) s n room.lower_room in
    let side = column_left shown_of start_state next_state put_in c xs (λ w. w.side) side_byte 0 (λ w i row. refl) s n room.side_room in
    let index = column_left shown_of start_state next_state put_in c xs (λ w. w.index) index_of 0 (λ w i row. refl) s n room.index_room in
    rw (← upper, ← lower, ← side, ← index) e
