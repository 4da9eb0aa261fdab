-- What programs in other languages are told of editions: a number but 1 and 2 is 10, and nothing is written; without gaps 1 and 2 leave the same; and in the second a gap repeats the limits. Assumes nothing.
use mathlib.Core.Path.{◌≡◌, sym, ap, ◌∙◌}
use Prim.Native.Nat.{ℕ, suc, ◌<◌}
use mathlib.Core.Bool.{false}
use mathlib.Core.List.{List}
use native.Mathlib.Omega.{arith}
use lib.ListN.{length, get_or}
use lib.Ieee.{Float, nan}
use Rattle.std.specs.Prelude.{Result}
use Rattle.refusals.specs.declared.Refusal.{Refusal}
use Rattle.floats.specs.Finite.{finite}
use Rattle.refusals.specs.Tried.{count_of}
use Rattle.refusals.specs.Said.{said}
use Rattle.charts.specs.Answers.{admitted_as}
use Rattle.charts.specs.Outcomes as Outcomes
use Rattle.charts.specs.Runs.{column}
use Rattle.charts.proofs.Answers.{within_both}
use Rattle.charts.proofs.Points.{field_in}
use Rattle.ewma.specs.declared.Ewma.{Ewma}
use Rattle.ewma.specs.declared.Edition.TheVariants.{First, Second}
use Rattle.ewma.specs.declared.EwmaResult.{EwmaResult}
use Rattle.ewma.specs.Chart.{tests_of, record_of, fresh, next_of, record_at, records}
use Rattle.ewma.specs.Editions.{Gapless}
use Rattle.ewma.proofs.Editions.{records_agree, points_agree, record_gap_repeats}
use Rattle.c_answers.specs.declared.Counted.{Counted}
use Rattle.c_answers.specs.Told.{told_of, counted_as, counted_of, told_left}
use Rattle.c_charts.specs.declared.EwmaSettings.{EwmaSettings}
use Rattle.c_charts.specs.Editions.{is_edition, edition_of, chart_of, asked_tests, asked_points, settings_of}
use Rattle.c_charts.specs.EwmaColumns.{ewma_of, ucl_of, lcl_of, side_byte, index_of, room_of, ewma_arrays}
use Rattle.c_charts.proofs.EditionLaws.{other_answer, other_points}
use Rattle.c_charts.proofs.SideArrays.{ewma_told}

abbrev Arrays : Type 0
Arrays = Counted × List Float × List Float × List Float × List ℕ × List ℕ

-- ---- any other number
module _ (asked : EwmaSettings) (e : is_edition asked.edition ≡ false) (xs : List Float) where
  pub arrays_refused : (ewma ucl lcl : List Float) (side index : List ℕ) → ◌≡◌ {A = Arrays} (ewma_arrays asked xs ewma ucl lcl side index) (counted_as 10 0, ewma, ucl, lcl, side, index)
  unfolding told_of
  arrays_refused ewma ucl lcl side index =
      ap (λ (r : Result ℕ Refusal). let shown = records (chart_of asked) xs (count_of r) in (counted_of (said r), column ewma_of shown ewma, column ucl_of shown ucl, column lcl_of shown lcl, column side_byte shown side, column index_of shown index))
      (other_answer asked e (length xs) (room_of ewma ucl lcl side index) (length xs))

  pub points_refused : (entry : List ℕ) → ◌≡◌ {A = Counted × List ℕ} (told_left (asked_points asked xs entry)) (counted_as 10 0, entry)
  unfolding told_of
  points_refused entry = ap (λ (o : Result ℕ Refusal × List ℕ). told_left o) (other_points asked e xs entry)

-- ---- a series without gaps
module _ (target sigma lambda factor : Float) (xs : List Float) (g : Gapless xs (length xs)) where
  -- the chart that is asked for by the number `n`
  abbrev by : ℕ → EwmaSettings
  by n = settings_of target sigma lambda factor n

  pub arrays_agree : (ewma ucl lcl : List Float) (side index : List ℕ) → ◌≡◌ {A = Arrays} (ewma_arrays (by 1) xs ewma ucl lcl side index) (ewma_arrays (by 2) xs ewma ucl lcl side index)
  unfolding tests_of is_edition edition_of
  arrays_agree ewma ucl lcl side index =
      let answer = admitted_as (asked_tests (by 1)) (length xs) (room_of ewma ucl lcl side index) in
      let few = (within_both (asked_tests (by 1)) (length xs) (room_of ewma ucl lcl side index)).0 in
      ap (λ (shown : List EwmaResult). (counted_of (said answer), column ewma_of shown ewma, column ucl_of shown ucl, column lcl_of shown lcl, column side_byte shown side, column index_of shown index))
      (records_agree (chart_of (by 1)) First Second xs (count_of answer) (λ i h. g i (omega (arith, h, few))))

  pub points_told_agree : (entry : List ℕ) → ◌≡◌ {A = Counted × List ℕ} (told_left (asked_points (by 1) xs entry)) (told_left (asked_points (by 2) xs entry))
  unfolding tests_of is_edition edition_of
  points_told_agree entry = ap (λ (points : List ℕ). told_left (Outcomes.signalled (asked_tests (by 1)) (length xs) points entry)) (points_agree (chart_of (by 1)) First Second xs (length xs) g)

-- ---- the second edition, where 0 is told
module _ (target sigma lambda factor : Float) (xs ewma ucl lcl ewma' ucl' lcl' : List Float) (side index side' index' : List ℕ) (count : ℕ)
    (a : ◌≡◌ {A = Arrays} (counted_as 0 count, ewma', ucl', lcl', side', index') (ewma_arrays (settings_of target sigma lambda factor 2) xs ewma ucl lcl side index)) where
  abbrev asked : EwmaSettings
  asked = settings_of target sigma lambda factor 2

  abbrev chart : Ewma
  chart = chart_of asked

  ucl_is : (i : ℕ) → i < length xs → get_or ucl' i nan ≡ (record_at chart xs i).ucl
  ucl_is i h =
      ap (λ (l : List Float). get_or l i nan) (ap (λ (o : Arrays). o.2) a ∙ ap (λ (k : ℕ). column ucl_of (records chart xs k) ucl) (ewma_told asked xs ewma ucl lcl ewma' ucl' lcl' side index side' index' count a).1)
      ∙ field_in record_of fresh next_of chart xs ucl_of ucl (length xs) i nan h

  lcl_is : (i : ℕ) → i < length xs → get_or lcl' i nan ≡ (record_at chart xs i).lcl
  lcl_is i h =
      ap (λ (l : List Float). get_or l i nan) (ap (λ (o : Arrays). o.3) a ∙ ap (λ (k : ℕ). column lcl_of (records chart xs k) lcl) (ewma_told asked xs ewma ucl lcl ewma' ucl' lcl' side index side' index' count a).1)
      ∙ field_in record_of fresh next_of chart xs lcl_of lcl (length xs) i nan h

  pub array_gap_repeats : (i : ℕ) → suc i < length xs → finite (get_or xs (suc i) nan) ≡ false → (get_or ucl' (suc i) nan ≡ get_or ucl' i nan) × (get_or lcl' (suc i) nan ≡ get_or lcl' i nan)
  unfolding edition_of
  array_gap_repeats i h e =
      let same = record_gap_repeats chart xs i e in
      let l : i < length xs = omega (arith, h) in
      (ucl_is (suc i) h ∙ same.0 ∙ sym (ucl_is i l), lcl_is (suc i) h ∙ same.1 ∙ sym (lcl_is i l))
