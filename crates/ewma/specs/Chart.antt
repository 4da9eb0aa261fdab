-- The EWMA chart: its settings, the place of a reading and its limits, one reading's step, the records of a series, and the indices that signal. Rules 5.1, 5.2, 5.4, 5.5 and 5.7. Definitions only.
use Rattle.std.specs.Prelude.{ℕ, suc, ◌*◌, Bool, ◌&&◌, cond, List, length, Float, Result}
use Rattle.floats.specs.Numbers.{◌+ᶠ◌, ◌-ᶠ◌, ◌*ᶠ◌, ◌/ᶠ◌, ◌<ᶠ◌, ◌≤ᶠ◌, +0, of_whole, ratio}
use Rattle.floats.specs.Finite.{finite}
use Rattle.elementary.specs.Root.{sqrt}
use Rattle.elementary.specs.Power.{powi}
use Rattle.charts.specs.Sides.{side_of, signals}
use Rattle.charts.specs.Settings.{setting_tests}
use Rattle.charts.specs.Runs as Runs
use Rattle.charts.specs.Outcomes as Outcomes
use Rattle.refusals.specs.declared.Refusal.{Refusal}
use Rattle.charts.specs.declared.InRange.{InRange}
use Rattle.charts.specs.declared.Observation.{Observation}
use Rattle.charts.specs.declared.Place.{Place}
use Rattle.charts.specs.declared.Side.{Side}
use Rattle.charts.specs.declared.Side.TheVariants as Sided
use Rattle.ewma.specs.declared.Edition.{Edition}
use Rattle.ewma.specs.declared.Edition.TheVariants.{First, Second}
use Rattle.ewma.specs.declared.Ewma.{Ewma}
use Rattle.ewma.specs.declared.EwmaResult.{EwmaResult}

-- the two constructors; `new` has the defaults lambda 0.2 and L 3
abbrev pub with_params : Float → Float → Float → Float → Edition → Ewma
with_params target sigma lambda factor edition = record { target = target; sigma = sigma; lambda = lambda; l_factor = factor; edition = edition }

unfoldable pub new_of : Float → Float → Edition → Ewma
new_of target sigma edition = with_params target sigma (ratio 1 5) (of_whole 3) edition

-- target finite; sigma finite and above 0; lambda in (0, 1]; L finite, above 0
unfoldable pub accepted : Ewma → Bool
accepted c =
    finite c.target && (finite c.sigma && +0 <ᶠ c.sigma) && (+0 <ᶠ c.lambda && c.lambda ≤ᶠ of_whole 1) && (finite c.l_factor && +0 <ᶠ c.l_factor)

-- which of these four are in range, and their tests
abbrev pub in_range : Ewma → InRange
in_range c = record { target = finite c.target; sigma = finite c.sigma && +0 <ᶠ c.sigma; weight = +0 <ᶠ c.lambda && c.lambda ≤ᶠ of_whole 1; bound = finite c.l_factor && +0 <ᶠ c.l_factor }

unfoldable pub tests_of : Ewma → List (Bool × Refusal)
tests_of c = setting_tests (in_range c)

-- the place of the reading `x` at `index`, after the place `before`. First edition: the index and 1, gap or not; second: a finite reading has the next place, and a gap stays at the last
abbrev pub place_after : Edition → Place → Observation → Float → Place
place_after First before index x = record { 0 = suc index.0 }
place_after Second before index x = cond (finite x) (record { 0 = suc before.0 }) before

-- half the distance of the limits at `place`: L·sigma times the root of lambda / (2 - lambda) · (1 - (1 - lambda)^(2·place))
unfoldable pub half_width_at : Ewma → Place → Float
half_width_at c place =
    c.l_factor *ᶠ c.sigma *ᶠ sqrt (c.lambda /ᶠ (of_whole 2 -ᶠ c.lambda) *ᶠ (of_whole 1 -ᶠ powi (of_whole 1 -ᶠ c.lambda) (2 * place.0)))

-- the record of a statistic with limits that lie a given width from the target
abbrev pub within : Ewma → Observation → Float → Side → Float → EwmaResult
within c index half side ewma = record { ewma = ewma; ucl = c.target +ᶠ half; lcl = c.target -ᶠ half; side = side; index = index }

-- on which side a statistic is strictly outside the limits
abbrev pub outside : Ewma → Float → Float → Side
outside c half ewma = side_of (c.target +ᶠ half <ᶠ ewma) (ewma <ᶠ c.target -ᶠ half)

-- the statistic moves on to a reading: lambda·x + (1 - lambda)·before
abbrev pub averaged : Ewma → Float → Float → Float
averaged c before x = c.lambda *ᶠ x +ᶠ (of_whole 1 -ᶠ c.lambda) *ᶠ before

-- the record of the reading `x` at `index` and `place`, after the record `before`; a gap carries the statistic forward, and its side is none
unfoldable pub step_of : Ewma → Place → EwmaResult → Observation → Float → EwmaResult
step_of c place before index x =
    let half = half_width_at c place in
    let ewma = averaged c before.ewma x in
    cond (finite x) (within c index half (outside c half ewma) ewma) (within c index half Sided.None before.ewma)

-- what goes from reading to reading: the last record and its place
abbrev pub Charted : Type 0
Charted = EwmaResult × Place

abbrev pub record_of : Charted → EwmaResult
record_of s = s.0

-- before the first reading the statistic is the target, and the place is 0
abbrev pub blank : Ewma → EwmaResult
blank c = record { ewma = c.target; ucl = c.target; lcl = c.target; side = Sided.None; index = record { 0 = 0 } }

abbrev pub fresh : Ewma → Charted
fresh c = (blank c, record { 0 = 0 })

-- the reading has its place, and then its record
abbrev pub next_of : Ewma → Charted → ℕ → Float → Charted
next_of c s i x = let place = place_after c.edition s.1 (record { 0 = i }) x in (step_of c place s.0 (record { 0 = i }) x, place)

-- of a chart and a series: the record of the reading at an index, those of the first readings, and the indices among them that signal
abbrev pub record_at : Ewma → List Float → ℕ → EwmaResult
record_at = Runs.record_at record_of fresh next_of

abbrev pub records : Ewma → List Float → ℕ → List EwmaResult
records = Runs.records record_of fresh next_of

abbrev pub signal_of : EwmaResult → Bool
signal_of r = signals r.side

abbrev pub signalling : Ewma → List Float → ℕ → List ℕ
signalling c xs n = Runs.points record_of fresh next_of c xs signal_of n

-- what `analyze` and `signal_points` answer and leave in the lent slice
abbrev pub analyzed : Ewma → List Float → List EwmaResult → Result ℕ Refusal × List EwmaResult
analyzed c xs entry = Outcomes.analyzed (tests_of c) (length xs) (records c xs) entry

abbrev pub signalled : Ewma → List Float → List ℕ → Result ℕ Refusal × List ℕ
signalled c xs entry = Outcomes.signalled (tests_of c) (length xs) (signalling c xs (length xs)) entry
