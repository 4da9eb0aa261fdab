-- An EWMA chart asked for in plain numbers: its edition, and the tests of what is asked. Rules 5.7 and 8.1. Definitions only.
use Rattle.std.specs.Prelude.{ℕ, Bool, not, ◌||◌, cond, List, ◌∷◌, eqb, length, Float, Result, Option, Some, None}
use Rattle.refusals.specs.declared.Refusal.{Refusal}
use Rattle.charts.specs.Outcomes as Outcomes
use Rattle.ewma.specs.declared.Edition.{Edition}
use Rattle.ewma.specs.declared.Edition.TheVariants.{First, Second}
use Rattle.ewma.specs.declared.Ewma.{Ewma}
use Rattle.ewma.specs.Chart.{with_params, tests_of, signalling}
use Rattle.c_charts.specs.declared.EwmaSettings.{EwmaSettings}

-- an edition is 1 or 2: the first and the second
unfoldable pub is_edition : ℕ → Bool
is_edition n = eqb n 1 || eqb n 2

unfoldable pub edition_of : ℕ → Edition
edition_of n = cond (eqb n 1) First Second

abbrev pub chart_of : EwmaSettings → Ewma
chart_of asked = with_params asked.target asked.sigma asked.lambda asked.l_factor (edition_of asked.edition)

-- the edition and the chart where the number is that of an edition
abbrev pub edition_told : ℕ → Option Edition
edition_told n = cond (is_edition n) (Some (edition_of n)) None

abbrev pub chart_told : EwmaSettings → Option Ewma
chart_told asked = cond (is_edition asked.edition) (Some (chart_of asked)) None

-- 10 for any other number, and then the tests of the chart's settings
abbrev pub asked_tests : EwmaSettings → List (Bool × Refusal)
asked_tests asked = (not (is_edition asked.edition), Refusal.Form) ∷ tests_of (chart_of asked)

-- what `signal_points` answers and leaves in the lent indices
abbrev pub asked_points : EwmaSettings → List Float → List ℕ → Result ℕ Refusal × List ℕ
asked_points asked xs entry = Outcomes.signalled (asked_tests asked) (length xs) (signalling (chart_of asked) xs (length xs)) entry

-- the parts of the settings, as a call hands them over one by one
abbrev pub settings_of : Float → Float → Float → Float → ℕ → EwmaSettings
settings_of target sigma lambda factor edition = record { target = target; sigma = sigma; lambda = lambda; l_factor = factor; edition = edition }
