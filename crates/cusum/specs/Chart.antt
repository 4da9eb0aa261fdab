-- The CUSUM chart: its settings, one reading's step, the records of a series, and the indices that signal. Rules 5.1 to 5.3 and 5.5. Definitions only.
use Rattle.std.specs.Prelude.{ℕ, Bool, ◌&&◌, cond, List, length, Float, Result}
use Rattle.floats.specs.Numbers.{◌+ᶠ◌, ◌-ᶠ◌, ◌/ᶠ◌, ◌<ᶠ◌, ◌≤ᶠ◌, +0, of_whole, ratio}
use Rattle.floats.specs.Finite.{finite}
use Rattle.floats.specs.MaxMin.{larger}
use Rattle.charts.specs.Sides.{side_of, signals}
use Rattle.charts.specs.Settings.{setting_tests}
use Rattle.charts.specs.Runs as Runs
use Rattle.charts.specs.Outcomes as Outcomes
use Rattle.refusals.specs.declared.Refusal.{Refusal}
use Rattle.charts.specs.declared.InRange.{InRange}
use Rattle.charts.specs.declared.Observation.{Observation}
use Rattle.charts.specs.declared.Side.TheVariants as Sided
use Rattle.cusum.specs.declared.Cusum.{Cusum}
use Rattle.cusum.specs.declared.CusumResult.{CusumResult}
use Rattle.cusum.specs.declared.State.{State}

-- the two constructors; `new` has the defaults k 0.5 and h 5
abbrev pub with_params : Float → Float → Float → Float → Cusum
with_params target sigma k h = record { target = target; sigma = sigma; k = k; h = h }

unfoldable pub new_of : Float → Float → Cusum
new_of target sigma = with_params target sigma (ratio 1 2) (of_whole 5)

-- target finite; sigma finite and above 0; k finite, not negative; h finite, above 0
unfoldable pub accepted : Cusum → Bool
accepted c = finite c.target && (finite c.sigma && +0 <ᶠ c.sigma) && (finite c.k && +0 ≤ᶠ c.k) && (finite c.h && +0 <ᶠ c.h)

-- which of these four are in range, and their tests
abbrev pub in_range : Cusum → InRange
in_range c = record { target = finite c.target; sigma = finite c.sigma && +0 <ᶠ c.sigma; weight = finite c.k && +0 ≤ᶠ c.k; bound = finite c.h && +0 <ᶠ c.h }

unfoldable pub tests_of : Cusum → List (Bool × Refusal)
tests_of c = setting_tests (in_range c)

-- how far the reading `x` lies from the target, in units of sigma
abbrev pub score : Cusum → Float → Float
score c x = (x -ᶠ c.target) /ᶠ c.sigma

-- the record at `index` of a chart whose sums are now `upper` and `lower`: its side is that of the sums above h
abbrev pub moved : Cusum → Observation → Float → Float → CusumResult
moved c index upper lower = record { s_upper = upper; s_lower = lower; side = side_of (c.h <ᶠ upper) (c.h <ᶠ lower); index = index }

-- the record of the reading `x` at `index`, after the record `before`: both sums move on; a gap carries them forward, and its side is none
unfoldable pub step_of : Cusum → CusumResult → Observation → Float → CusumResult
step_of c before index x =
    cond (finite x)
    (moved c index (larger (before.s_upper +ᶠ score c x -ᶠ c.k) +0) (larger (before.s_lower -ᶠ score c x -ᶠ c.k) +0))
    (record { s_upper = before.s_upper; s_lower = before.s_lower; side = Sided.None; index = index })

-- before the first reading both sums are 0
abbrev pub fresh : CusumResult
fresh = record { s_upper = +0; s_lower = +0; side = Sided.None; index = record { 0 = 0 } }

-- the same as states of a run, and the record that a state shows
abbrev pub shown_of : State → CusumResult
shown_of s = s.shown

abbrev pub start_state : Cusum → State
start_state c = record { shown = fresh }

abbrev pub next_state : Cusum → State → ℕ → Float → State
next_state c s i x = record { shown = step_of c s.shown (record { 0 = i }) x }

abbrev pub following_state : Cusum → List Float → ℕ → State → State
following_state = Runs.following next_state

-- of a chart and a series: the record of the reading at an index, those of the first readings, and the indices among them that signal
abbrev pub record_at : Cusum → List Float → ℕ → CusumResult
record_at = Runs.record_at shown_of start_state next_state

abbrev pub records : Cusum → List Float → ℕ → List CusumResult
records = Runs.records shown_of start_state next_state

abbrev pub signal_of : CusumResult → Bool
signal_of r = signals r.side

abbrev pub signalling : Cusum → List Float → ℕ → List ℕ
signalling c xs n = Runs.points shown_of start_state next_state c xs signal_of n

-- what `analyze` and `signal_points` answer and leave in the lent slice
abbrev pub analyzed : Cusum → List Float → List CusumResult → Result ℕ Refusal × List CusumResult
analyzed c xs entry = Outcomes.analyzed (tests_of c) (length xs) (records c xs) entry

abbrev pub signalled : Cusum → List Float → List ℕ → Result ℕ Refusal × List ℕ
signalled c xs entry = Outcomes.signalled (tests_of c) (length xs) (signalling c xs (length xs)) entry
