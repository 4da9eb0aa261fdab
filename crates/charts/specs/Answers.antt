-- The order of a chart's refusals, and the answers of its calls. Rule 2.4. Definitions only.
use Rattle.std.specs.Prelude.{ℕ, Bool, List, [], ◌∷◌, ◌++◌, ltb, Result, Err, ⊤}
use Rattle.refusals.specs.Limits.{max_readings}
use Rattle.refusals.specs.Tried.{counted}
use Rattle.refusals.specs.declared.Refusal.{Refusal}
use Rattle.charts.specs.Settings.{after_settings}

-- 6 `n` readings are more than the limit; 7 `room` is less than `n`
abbrev pub size_tests : ℕ → ℕ → List (Bool × Refusal)
size_tests n room = (ltb max_readings n, Refusal.TooLong) ∷ (ltb room n, Refusal.Room) ∷ []

-- the tests of a chart's `settings`, and then these
abbrev pub chart_tests : List (Bool × Refusal) → ℕ → ℕ → List (Bool × Refusal)
chart_tests settings n room = settings ++ size_tests n room

-- the first of them, or `count`
unfoldable pub chart_answer : List (Bool × Refusal) → ℕ → ℕ → ℕ → Result ℕ Refusal
chart_answer settings n room count = counted (chart_tests settings n room) count

-- what `analyze` answers: a record for each of `n` readings
abbrev pub admitted_as : List (Bool × Refusal) → ℕ → ℕ → Result ℕ Refusal
admitted_as settings n room = chart_answer settings n room n

-- the same by what the settings' tests have come to
abbrev pub admitted_after : Result ⊤ Refusal → ℕ → ℕ → Result ℕ Refusal
admitted_after settings n room = after_settings Err settings (counted (size_tests n room) n)
