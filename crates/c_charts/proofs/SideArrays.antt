-- What the array of sides holds: at the index of each reading the number of its record's side. So a gap has 0, and no reading of an EWMA chart 3. Assumes nothing.
use mathlib.Core.Path.{◌≡◌, refl, sym, ap, ◌∙◌}
use Prim.Native.Nat.{ℕ, ◌<◌}
use mathlib.Core.Bool.{Bool, true, false, false≢true}
use mathlib.Core.List.{List}
use mathlib.Core.Logic.{inl, inr}
use native.Mathlib.Omega.{arith}
use lib.ListN.{length, get_or}
use lib.Ieee.{Float, nan}
use Rattle.std.specs.Prelude.{Ok}
use Rattle.floats.specs.Finite.{finite}
use Rattle.refusals.specs.Tried.{passed, count_of}
use Rattle.refusals.specs.Said.{said}
use Rattle.refusals.specs.declared.Refusal.{Refusal}
use Rattle.charts.specs.Answers.{admitted_as}
use Rattle.charts.specs.Runs.{column}
use Rattle.charts.specs.Sides.{faces, side_number}
use Rattle.charts.specs.declared.Side.{Side}
use Rattle.charts.specs.declared.Side.TheVariants as Sided
use Rattle.charts.specs.declared.Sum.{Sum}
use Rattle.charts.specs.declared.Sum.TheVariants.{Upper, Lower}
use Rattle.refusals.proofs.TriedLaws.{passed_rest}
use Rattle.charts.proofs.Answers.{count_accepted}
use Rattle.charts.proofs.Points.{field_in}
use Rattle.cusum.specs.declared.Cusum.{Cusum}
use Rattle.cusum.specs.Chart as Cusum
use Rattle.cusum.proofs.Sides as CusumSides
use Rattle.ewma.specs.Chart as Ewma
use Rattle.ewma.proofs.Sides as EwmaSides
use Rattle.ewma.proofs.SettingLaws.{passed_accepted}
use Rattle.c_answers.specs.declared.Counted.{Counted}
use Rattle.c_answers.specs.Told.{counted_as, counted_of}
use Rattle.c_answers.proofs.ReadBack.{count_told}
use Rattle.c_charts.specs.declared.EwmaSettings.{EwmaSettings}
use Rattle.c_charts.specs.Columns.{Facing}
use Rattle.c_charts.specs.Editions.{chart_of, asked_tests}
use Rattle.c_charts.specs.CusumColumns as CusumColumns
use Rattle.c_charts.specs.EwmaColumns as EwmaColumns

-- ---- numbers of sides
pub facing_number : (asked : Sum) (s : Side) → faces asked s ≡ true → Facing asked (side_number s)
facing_number Upper Sided.None e = absurd (false≢true e)
facing_number Upper Sided.Above e = inl refl
facing_number Upper Sided.Below e = absurd (false≢true e)
facing_number Upper Sided.Both e = inr refl
facing_number Lower Sided.None e = absurd (false≢true e)
facing_number Lower Sided.Above e = absurd (false≢true e)
facing_number Lower Sided.Below e = inl refl
facing_number Lower Sided.Both e = inr refl

pub facing_some : (asked : Sum) (n : ℕ) → Facing asked n → 0 < n
facing_some Upper n f = elim f [ inl e ↦ omega (arith, e) | inr e ↦ omega (arith, e) ]
facing_some Lower n f = elim f [ inl e ↦ omega (arith, e) | inr e ↦ omega (arith, e) ]

other : (n : ℕ) → n < 3 → n ≡ 3 → ⊥
other n h e = omega (arith, h, e)

both_number : (s : Side) → side_number s ≡ 3 → s ≡ Sided.Both
both_number Sided.None e = absurd (other 0 (omega arith) e)
both_number Sided.Above e = absurd (other 1 (omega arith) e)
both_number Sided.Below e = absurd (other 2 (omega arith) e)
both_number Sided.Both e = refl

-- ---- where 0 is told, the settings are in range and every reading has its record
pub told_records : (ts : List (Bool × Refusal)) (n room count : ℕ) → counted_as 0 count ≡ counted_of (said (admitted_as ts n room)) → (passed ts ≡ true) × (count_of (admitted_as ts n room) ≡ n)
told_records ts n room count e =
    let answer : admitted_as ts n room ≡ Ok count = count_told (admitted_as ts n room) count e in
    let counts = count_accepted ts n room n count (sym answer) in
    (counts.0, ap count_of answer ∙ counts.1)

-- ---- CUSUM
module _ (c : Cusum) (xs upper lower upper' lower' : List Float) (side index side' index' : List ℕ) (count : ℕ)
    (a : ◌≡◌ {A = Counted × List Float × List Float × List ℕ × List ℕ} (counted_as 0 count, upper', lower', side', index') (CusumColumns.cusum_arrays c xs upper lower side index)) where
  pub cusum_told : (passed (Cusum.tests_of c) ≡ true) × (count_of (admitted_as (Cusum.tests_of c) (length xs) (CusumColumns.room_of upper lower side index)) ≡ length xs)
  cusum_told = told_records (Cusum.tests_of c) (length xs) (CusumColumns.room_of upper lower side index) count (ap (λ (o : Counted × List Float × List Float × List ℕ × List ℕ). o.0) a)

  pub cusum_side : (i : ℕ) → i < length xs → get_or side' i 0 ≡ side_number (Cusum.record_at c xs i).side
  cusum_side i h =
      ap (λ (l : List ℕ). get_or l i 0) (ap (λ (o : Counted × List Float × List Float × List ℕ × List ℕ). o.3) a ∙ ap (λ (k : ℕ). column CusumColumns.side_byte (Cusum.records c xs k) side) cusum_told.1)
      ∙ field_in Cusum.shown_of Cusum.start_state Cusum.next_state c xs CusumColumns.side_byte side (length xs) i 0 h

  pub cusum_gap : (i : ℕ) → i < length xs → finite (get_or xs i nan) ≡ false → get_or side' i 0 ≡ 0
  cusum_gap i h e = cusum_side i h ∙ ap side_number (CusumSides.record_gap c xs i e)

-- ---- EWMA
module _ (asked : EwmaSettings) (xs ewma ucl lcl ewma' ucl' lcl' : List Float) (side index side' index' : List ℕ) (count : ℕ)
    (a : ◌≡◌ {A = Counted × List Float × List Float × List Float × List ℕ × List ℕ} (counted_as 0 count, ewma', ucl', lcl', side', index') (EwmaColumns.ewma_arrays asked xs ewma ucl lcl side index)) where
  pub ewma_told : (passed (asked_tests asked) ≡ true) × (count_of (admitted_as (asked_tests asked) (length xs) (EwmaColumns.room_of ewma ucl lcl side index)) ≡ length xs)
  ewma_told = told_records (asked_tests asked) (length xs) (EwmaColumns.room_of ewma ucl lcl side index) count (ap (λ (o : Counted × List Float × List Float × List Float × List ℕ × List ℕ). o.0) a)

  pub ewma_side : (i : ℕ) → i < length xs → get_or side' i 0 ≡ side_number (Ewma.record_at (chart_of asked) xs i).side
  ewma_side i h =
      ap (λ (l : List ℕ). get_or l i 0) (ap (λ (o : Counted × List Float × List Float × List Float × List ℕ × List ℕ). o.4) a ∙ ap (λ (k : ℕ). column EwmaColumns.side_byte (Ewma.records (chart_of asked) xs k) side) ewma_told.1)
      ∙ field_in Ewma.record_of Ewma.fresh Ewma.next_of (chart_of asked) xs EwmaColumns.side_byte side (length xs) i 0 h

  pub ewma_gap : (i : ℕ) → i < length xs → finite (get_or xs i nan) ≡ false → get_or side' i 0 ≡ 0
  ewma_gap i h e = ewma_side i h ∙ ap side_number (EwmaSides.record_gap (chart_of asked) xs i e)

  pub ewma_not_both : (i : ℕ) → i < length xs → get_or side' i 0 ≡ 3 → ⊥
  ewma_not_both i h e = EwmaSides.record_not_both (chart_of asked) xs i (passed_accepted (chart_of asked) (passed_rest _ _ ewma_told.0)) (both_number (Ewma.record_at (chart_of asked) xs i).side (sym (ewma_side i h) ∙ e))
