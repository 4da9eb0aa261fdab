-- What a walk leaves in the arrays of an EWMA chart is the outcome, behind the same references. Assumes nothing.
use mathlib.Core.Path.{◌≡◌, refl, sym, ap, ap₂, ◌∙◌}
use Prim.Native.Nat.{ℕ, zero, suc, ◌≤◌}
use mathlib.Core.Bool.{Bool, true, false}
use mathlib.Core.List.{List, [], ◌∷◌, ◌++◌}
use native.Mathlib.Omega.{arith}
use lib.ListN.{length}
use lib.Ieee.{Float, nan}
use Rattle.std.specs.Prelude.{Result, Err}
use Rattle.refusals.specs.Limits.{max_readings}
use Rattle.std.specs.Prelude.{Result}
use Rattle.refusals.specs.Limits.{max_readings}
use Rattle.refusals.specs.Tried.{count_of}
use Rattle.refusals.specs.Said.{said}
use Rattle.refusals.specs.declared.Refusal.{Refusal}
use Rattle.charts.specs.Answers.{admitted_as}
use Rattle.charts.specs.Runs as Runs
use Rattle.charts.specs.Runs.{state_at, column}
use Rattle.charts.proofs.Answers.{within_both, few_records}
use Rattle.charts.proofs.Runs.{following_is, state_more}
use Rattle.ewma.specs.declared.Ewma.{Ewma}
use Rattle.ewma.specs.declared.EwmaResult.{EwmaResult}
use Rattle.ewma.specs.Chart.{in_range, tests_of, Charted, records, record_of, fresh, next_of}
use Rattle.ewma.specs.Settled.{shown_of, start_state, next_state, state_of}
use Rattle.ewma.proofs.AtRest.{placed, turn}
use Rattle.c_answers.specs.declared.Counted.{Counted}
use Rattle.c_answers.specs.Told.{counted_of}
use Rattle.c_charts.specs.declared.EwmaSettings.{EwmaSettings}
use Rattle.c_charts.specs.declared.ewma_columns.EwmaColumns.{EwmaColumns}
use Rattle.c_charts.specs.Columns.{shorter}
use Rattle.c_charts.specs.Editions.{is_edition, chart_of, asked_tests}
use Rattle.c_charts.specs.EwmaColumns.{ewma_arrays, ewma_of, ucl_of, lcl_of, side_byte, index_of, room_of}
use Rattle.c_charts.specs.Inner.EwmaPut.{room_in, put_in}
use Rattle.c_charts.specs.Inner.Walk.{all_put, column_in}
use Rattle.c_charts.proofs.EditionLaws.{known_answer, other_answer}
use Rattle.c_charts.proofs.Lengths.{shorter_least, shortest_least}
use Rattle.c_charts.proofs.WalkLaws.{column_left}

-- every array has room for `n` records
pub record Room (n : ℕ) (ewma ucl lcl : List Float) (side index : List ℕ) : Type 0 where
  pub ewma_room : n ≤ length ewma
  pub ucl_room : n ≤ length ucl
  pub lcl_room : n ≤ length lcl
  pub side_room : n ≤ length side
  pub index_room : n ≤ length index

-- the records that are written have room
pub written_room : (ts : List (Bool × Refusal)) (n : ℕ) (ewma ucl lcl : List Float) (side index : List ℕ) → let k = count_of (admitted_as ts n (room_of ewma ucl lcl side index)) in (k ≤ n) × Room k ewma ucl lcl side index
written_room ts n ewma ucl lcl side index =
    let k = within_both ts n (room_of ewma ucl lcl side index) in
    let h = shorter_least (length ewma) (length ucl) in
    let s = shortest_least (shorter (length ewma) (length ucl)) (length lcl) (length side) (length index) in
    (k.0, record { ewma_room = omega (arith, k.1, s.0, h.0); ucl_room = omega (arith, k.1, s.0, h.1); lcl_room = omega (arith, k.1, s.1); side_room = omega (arith, k.1, s.2); index_room = omega (arith, k.1, s.3) })

-- ---- the run of states that the walk makes shows the chart's own records
module _ (c : Ewma) (xs : List Float) where
  state_settles : (n : ℕ) → n ≤ length xs → n ≤ max_readings → let s = state_at shown_of start_state next_state c xs n in (placed s ≡ state_at record_of fresh next_of c xs n) × (s ≡ state_of c (placed s))
  state_settles zero h k = (refl, refl)
  state_settles (suc n) h k =
      let s = state_at shown_of start_state next_state c xs in
      let before = state_settles n (omega (arith, h)) (omega (arith, k)) in
      let turned = turn c xs n (s n) (s (suc n)) before.1 before.0 k (sym (following_is next_state c xs n (s n) h)) in
      (state_more record_of fresh next_of c xs n (placed (s n)) (placed (s (suc n))) before.0 h turned.0, turned.1)

  records_settle : (n : ℕ) → n ≤ length xs → n ≤ max_readings → Runs.records shown_of start_state next_state c xs n ≡ records c xs n
  records_settle zero h k = refl
  records_settle (suc n) h k = ap₂ (λ (l : List EwmaResult) (s : Charted). l ++ (s.0 ∷ [])) (records_settle n (omega (arith, h)) (omega (arith, k))) (state_settles (suc n) h k).0

-- ---- what a walk leaves
-- what is known as the loop begins, of the answer for that room and its count `k`
pub record Begun (ts : List (Bool × Refusal)) (n k : ℕ) (ewma ucl lcl : List Float) (side index : List ℕ) (answer : Result ℕ Refusal) : Type 0 where
  pub answered : answer ≡ admitted_as ts n (room_of ewma ucl lcl side index)
  pub counted : k ≡ count_of (admitted_as ts n (room_of ewma ucl lcl side index))
  pub readings : k ≤ n
  pub room : Room k ewma ucl lcl side index
  pub few : k ≤ max_readings

pub begun : (ts : List (Bool × Refusal)) (n k room : ℕ) (ewma ucl lcl : List Float) (side index : List ℕ) (answer : Result ℕ Refusal) → room ≡ room_of ewma ucl lcl side index → answer ≡ admitted_as ts n room → k ≡ count_of answer → Begun ts n k ewma ucl lcl side index answer
begun ts n k room ewma ucl lcl side index answer r e f =
    let a : answer ≡ admitted_as ts n (room_of ewma ucl lcl side index) = e ∙ ap (admitted_as ts n) r in
    let c : k ≡ count_of (admitted_as ts n (room_of ewma ucl lcl side index)) = f ∙ ap count_of a in
    let w = written_room ts n ewma ucl lcl side index in
    record { answered = a; counted = c; readings = rw c w.0; room = rw c w.1; few = rw c (few_records ts n (room_of ewma ucl lcl side index)) }

-- the arrays `s` with the fields of the records that are admitted at their fronts
abbrev pub arrays_left : Ewma → List Float → EwmaColumns → EwmaColumns
arrays_left c xs s =
    let shown = records c xs (count_of (admitted_as (tests_of c) (length xs) (room_in s))) in
    record { ewma = column_in ewma_of shown s.ewma; ucl = column_in ucl_of shown s.ucl; lcl = column_in lcl_of shown s.lcl; side = column_in side_byte shown s.side; index = column_in index_of shown s.index }

pub walked : (c : Ewma) (xs : List Float) (s w : EwmaColumns) → w ≡ all_put in_range shown_of start_state next_state put_in room_in c xs s → w ≡ arrays_left c xs s
unfolding tests_of
walked c xs s w e =
    let n = count_of (admitted_as (tests_of c) (length xs) (room_in s)) in
    let fits = written_room (tests_of c) (length xs) s.ewma.now s.ucl.now s.lcl.now s.side.now s.index.now in
    let room = fits.1 in
    let own : Runs.records shown_of start_state next_state c xs n ≡ records c xs n = records_settle c xs n fits.0 (few_records (tests_of c) (length xs) (room_in s)) in
    let ewma = column_left shown_of start_state next_state put_in c xs (λ w. w.ewma) ewma_of nan (λ w i row. refl) s n room.ewma_room in
    let ucl = column_left shown_of start_state next_state put_in c xs (λ w. w.ucl) ucl_of nan (λ w i row. refl) s n room.ucl_room in
    let lcl = column_left shown_of start_state next_state put_in c xs (λ w. w.lcl) lcl_of nan (λ w i row. refl) s n room.lcl_room in
    let side = column_left shown_of start_state next_state put_in c xs (λ w. w.side) side_byte 0 (λ w i row. refl) s n room.side_room in
    let index = column_left shown_of start_state next_state put_in c xs (λ w. w.index) index_of 0 (λ w i row. refl) s n room.index_room in
    rw (← own, ← ewma, ← ucl, ← lcl, ← side, ← index) e

-- which is the outcome of the chart that is asked for
pub arrays_are : (asked : EwmaSettings) (chart : Ewma) → (is_edition asked.edition ≡ true) × (chart ≡ chart_of asked) → (xs : List Float) (ewma ucl lcl : List Float) (side index : List ℕ)
    → let answer = admitted_as (tests_of chart) (length xs) (room_of ewma ucl lcl side index) in let shown = records chart xs (count_of answer) in
    ◌≡◌ {A = Counted × List Float × List Float × List Float × List ℕ × List ℕ} (counted_of (said answer), column ewma_of shown ewma, column ucl_of shown ucl, column lcl_of shown lcl, column side_byte shown side, column index_of shown index) (ewma_arrays asked xs ewma ucl lcl side index)
arrays_are asked chart known xs ewma ucl lcl side index =
    let room = room_of ewma ucl lcl side index in
    let shown = λ (r : Result ℕ Refusal). records chart xs (count_of r) in
    let own : admitted_as (tests_of chart) (length xs) room ≡ admitted_as (asked_tests asked) (length xs) room = ap (λ (c : Ewma). admitted_as (tests_of c) (length xs) room) known.1 ∙ sym (known_answer asked known.0 (length xs) room (length xs)) in
    ap (λ (r : Result ℕ Refusal). (counted_of (said r), column ewma_of (shown r) ewma, column ucl_of (shown r) ucl, column lcl_of (shown r) lcl, column side_byte (shown r) side, column index_of (shown r) index)) own
    ∙ ap (λ (c : Ewma). let r = admitted_as (asked_tests asked) (length xs) room in let l = records c xs (count_of r) in (counted_of (said r), column ewma_of l ewma, column ucl_of l ucl, column lcl_of l lcl, column side_byte l side, column index_of l index)) known.1

-- of a number that is no edition's: 10 is told, and nothing is written
pub arrays_other : (asked : EwmaSettings) → is_edition asked.edition ≡ false → (xs : List Float) (ewma ucl lcl : List Float) (side index : List ℕ) (t : Counted) → t ≡ counted_of (said (Err Refusal.Form))
    → ◌≡◌ {A = Counted × List Float × List Float × List Float × List ℕ × List ℕ} (t, ewma, ucl, lcl, side, index) (ewma_arrays asked xs ewma ucl lcl side index)
arrays_other asked other xs ewma ucl lcl side index t e =
    rw e (ap (λ (r : Result ℕ Refusal). let l = records (chart_of asked) xs (count_of r) in (counted_of (said r), column ewma_of l ewma, column ucl_of l ucl, column lcl_of l lcl, column side_byte l side, column index_of l index))
    (sym (other_answer asked other (length xs) (room_of ewma ucl lcl side index) (length xs))))
