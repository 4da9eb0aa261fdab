-- What programs in other languages are told of a chart's settings: a number from 15 to 18 names the first that is out of range, and any other but 0, and but the 10 of an edition or a run length, says that none is. Assumes nothing.
use mathlib.Core.Path.{◌≡◌, refl, ap, ◌∙◌}
use Prim.Native.Nat.{ℕ, ◌<◌}
use mathlib.Core.Bool.{Bool, true, false, not, cond}
use mathlib.Core.List.{List, [], ◌∷◌, ◌++◌}
use native.Mathlib.Omega.{arith}
use lib.Dec.{ltb}
use lib.ListN.{length}
use lib.Ieee.{Float}
use Rattle.std.specs.Prelude.{Result}
use Rattle.floats.specs.Finite.{finite}
use Rattle.refusals.specs.Stated.{stated}
use Rattle.refusals.specs.Tried.{tried}
use Rattle.refusals.specs.Said.{answered, refusing, said}
use Rattle.refusals.specs.declared.Refusal.{Refusal}
use Rattle.charts.specs.declared.InRange.{InRange}
use Rattle.charts.specs.Settings.{setting_tests, Named}
use Rattle.charts.specs.Answers.{size_tests, chart_answer}
use Rattle.charts.proofs.Answers.{answer_said}
use Rattle.charts.proofs.SettingLaws.{RefusesLow, refusal_names}
use Rattle.cusum.specs.Chart as Cusum
use Rattle.cusum.specs.RunLength.{heard, run_length}
use Rattle.cusum.specs.declared.Cusum.{Cusum}
use Rattle.ewma.specs.Chart as Ewma
use Rattle.c_answers.specs.declared.Counted.{Counted}
use Rattle.c_answers.specs.Told.{told_of, counted_as, counted_of, asked_sum, run_length_of, told_left}
use Rattle.c_answers.proofs.ReadBack.{number_told}
use Rattle.c_charts.specs.declared.EwmaSettings.{EwmaSettings}
use Rattle.c_charts.specs.CusumColumns as CusumColumns
use Rattle.c_charts.specs.Editions.{is_edition, chart_of, asked_tests, asked_points}
use Rattle.c_charts.specs.EwmaColumns as EwmaColumns
use Rattle.c_charts.proofs.EditionLaws.{known_answer, other_answer}

-- the refusal with this number, and what it says of the settings
abbrev pub NamedBy : InRange → ℕ → Type 0
NamedBy s number = (r : Refusal) × ((stated r).number ≡ number) × Named s r

-- after the settings the tests `us` are tried, whose refusals have lower numbers
told_names : (s : InRange) (us : List (Bool × Refusal)) → RefusesLow us → (values : List ℕ) (number k : ℕ) → 0 < number → counted_as number k ≡ counted_of (tried refusing (setting_tests s ++ us) (answered values)) → NamedBy s number
told_names s us low values number k h e = let told = number_told (setting_tests s ++ us) values number k h e in (told.0, told.2, refusal_names us low values told.0 s told.1)

chart_names : (s : InRange) (n room count number k : ℕ) → 0 < number → counted_as number k ≡ counted_of (said (chart_answer (setting_tests s) n room count)) → NamedBy s number
chart_names s n room count number k h e = told_names s (size_tests n room) (omega arith, (omega arith, tt)) (count ∷ []) number k h (e ∙ ap counted_of (answer_said (setting_tests s) n room count))

-- ---- of the arrays
pub cusum_arrays_name : (c : Cusum) (xs upper lower upper' lower' : List Float) (side index side' index' : List ℕ) (number count : ℕ) → 0 < number
    → ◌≡◌ {A = Counted × List Float × List Float × List ℕ × List ℕ} (counted_as number count, upper', lower', side', index') (CusumColumns.cusum_arrays c xs upper lower side index) → NamedBy (Cusum.in_range c) number
unfolding Cusum.tests_of
cusum_arrays_name c xs upper lower upper' lower' side index side' index' number count h e =
    chart_names (Cusum.in_range c) (length xs) (CusumColumns.room_of upper lower side index) (length xs) number count h (ap (λ (o : Counted × List Float × List Float × List ℕ × List ℕ). o.0) e)

-- of an EWMA where the number is not 10, which comes before the settings
asked_names : (asked : EwmaSettings) (n room count number k : ℕ) → 0 < number → (number ≡ 10 → ⊥) → counted_as number k ≡ counted_of (said (chart_answer (asked_tests asked) n room count)) → NamedBy (Ewma.in_range (chart_of asked)) number
unfolding Ewma.tests_of told_of
asked_names asked n room count number k h other e = go (is_edition asked.edition) refl
  where
    go : (known : Bool) → is_edition asked.edition ≡ known → NamedBy (Ewma.in_range (chart_of asked)) number
    go true t = chart_names (Ewma.in_range (chart_of asked)) n room count number k h (e ∙ ap (λ (r : Result ℕ Refusal). counted_of (said r)) (known_answer asked t n room count))
    go false t = absurd (other (ap (λ (told : Counted). told.number) (e ∙ ap (λ (r : Result ℕ Refusal). counted_of (said r)) (other_answer asked t n room count))))

pub ewma_arrays_name : (asked : EwmaSettings) (xs ewma ucl lcl ewma' ucl' lcl' : List Float) (side index side' index' : List ℕ) (number count : ℕ) → 0 < number → (number ≡ 10 → ⊥)
    → ◌≡◌ {A = Counted × List Float × List Float × List Float × List ℕ × List ℕ} (counted_as number count, ewma', ucl', lcl', side', index') (EwmaColumns.ewma_arrays asked xs ewma ucl lcl side index) → NamedBy (Ewma.in_range (chart_of asked)) number
ewma_arrays_name asked xs ewma ucl lcl ewma' ucl' lcl' side index side' index' number count h other e =
    asked_names asked (length xs) (EwmaColumns.room_of ewma ucl lcl side index) (length xs) number count h other (ap (λ (o : Counted × List Float × List Float × List Float × List ℕ × List ℕ). o.0) e)

-- ---- of the indices that signal
pub cusum_points_name : (c : Cusum) (xs : List Float) (entry exit : List ℕ) (number count : ℕ) → 0 < number → ◌≡◌ {A = Counted × List ℕ} (counted_as number count, exit) (told_left (Cusum.signalled c xs entry)) → NamedBy (Cusum.in_range c) number
unfolding Cusum.tests_of
cusum_points_name c xs entry exit number count h e = chart_names (Cusum.in_range c) (length xs) (length entry) (length (Cusum.signalling c xs (length xs))) number count h (ap (λ (o : Counted × List ℕ). o.0) e)

pub ewma_points_name : (asked : EwmaSettings) (xs : List Float) (entry exit : List ℕ) (number count : ℕ) → 0 < number → (number ≡ 10 → ⊥) → ◌≡◌ {A = Counted × List ℕ} (counted_as number count, exit) (told_left (asked_points asked xs entry)) → NamedBy (Ewma.in_range (chart_of asked)) number
ewma_points_name asked xs entry exit number count h other e = asked_names asked (length xs) (length entry) (length (Ewma.signalling (chart_of asked) xs (length xs))) number count h other (ap (λ (o : Counted × List ℕ). o.0) e)

-- ---- of the run length, where the number is not 10, which comes before the settings
pub run_length_names : (c : Cusum) (v : Float) (asked number reading : ℕ) → 0 < number → (number ≡ 10 → ⊥) → counted_as number reading ≡ counted_of (run_length_of c v asked) → NamedBy (Cusum.in_range c) number
unfolding run_length_of run_length tried told_of Cusum.tests_of
run_length_names c v asked number reading h other e = go (ltb asked 2) e
  where
    level : List (Bool × Refusal)
    level = (not (finite v), Refusal.NonFinite 0 0) ∷ []

    go : (known : Bool) → counted_as number reading ≡ counted_of (cond (not known) (refusing Refusal.Form) (tried refusing (setting_tests (Cusum.in_range c) ++ level) (answered (heard c v (asked_sum asked))))) → NamedBy (Cusum.in_range c) number
    go true e = told_names (Cusum.in_range c) level (omega arith, tt) (heard c v (asked_sum asked)) number reading h e
    go false e = absurd (other (ap (λ (t : Counted). t.number) e))
