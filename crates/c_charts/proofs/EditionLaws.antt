-- What the number of an edition does to an answer: 1 and 2 leave that of the chart, and any other is refusal 10. Assumes nothing.
use mathlib.Core.Path.{◌≡◌, refl, ap}
use Prim.Native.Nat.{ℕ}
use mathlib.Core.Bool.{Bool, true, false, cond}
use mathlib.Core.List.{List}
use lib.ListN.{length}
use lib.Ieee.{Float}
use Rattle.std.specs.Prelude.{Result, Err, Option, Some, None}
use Rattle.refusals.specs.declared.Refusal.{Refusal}
use Rattle.refusals.specs.Tried.{tried}
use Rattle.charts.specs.Answers.{chart_answer}
use Rattle.charts.specs.Outcomes.{provided}
use Rattle.charts.specs.Runs.{lent}
use Rattle.ewma.specs.declared.Ewma.{Ewma}
use Rattle.ewma.specs.Chart.{tests_of, signalling, signalled}
use Rattle.c_charts.specs.declared.EwmaSettings.{EwmaSettings}
use Rattle.c_charts.specs.Editions.{is_edition, chart_of, chart_told, asked_tests, asked_points}

module _ (asked : EwmaSettings) where
  pub known_answer : is_edition asked.edition ≡ true → (n room count : ℕ) → chart_answer (asked_tests asked) n room count ≡ chart_answer (tests_of (chart_of asked)) n room count
  unfolding chart_answer tried
  known_answer e n room count = rw (tried, e)

  pub other_answer : is_edition asked.edition ≡ false → (n room count : ℕ) → chart_answer (asked_tests asked) n room count ≡ Err Refusal.Form
  unfolding chart_answer tried
  other_answer e n room count = rw (tried, e)

  pub known_points : is_edition asked.edition ≡ true → (xs : List Float) (entry : List ℕ) → asked_points asked xs entry ≡ signalled (chart_of asked) xs entry
  known_points e xs entry =
      let points = signalling (chart_of asked) xs (length xs) in
      ap (λ (r : Result ℕ Refusal). (r, lent (provided r points) entry)) (known_answer e (length xs) (length entry) (length points))

  pub other_points : is_edition asked.edition ≡ false → (xs : List Float) (entry : List ℕ) → asked_points asked xs entry ≡ (Err Refusal.Form, entry)
  other_points e xs entry =
      let points = signalling (chart_of asked) xs (length xs) in
      ap (λ (r : Result ℕ Refusal). (r, lent (provided r points) entry)) (other_answer e (length xs) (length entry) (length points))

  -- the chart that is asked for by the number of an edition, and none by another
  pub told_known : (chart : Ewma) → Some chart ≡ chart_told asked → (is_edition asked.edition ≡ true) × (chart ≡ chart_of asked)
  told_known chart e = go (is_edition asked.edition) e
    where
      go : (known : Bool) → ◌≡◌ {A = Option Ewma} (Some chart) (cond known (Some (chart_of asked)) None) → (known ≡ true) × (chart ≡ chart_of asked)
      go true e = (refl, cc)
      go false e = cc

  pub told_other : None ≡ chart_told asked → is_edition asked.edition ≡ false
  told_other e = go (is_edition asked.edition) e
    where
      go : (known : Bool) → ◌≡◌ {A = Option Ewma} None (cond known (Some (chart_of asked)) None) → known ≡ false
      go true e = cc
      go false e = refl
