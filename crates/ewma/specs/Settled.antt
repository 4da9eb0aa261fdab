-- The limits of an EWMA chart by where they come to rest: the place, a width for every place, and a run that works out a width only where the place moves. Definitions only.
use Rattle.std.specs.Prelude.{ℕ, zero, suc, ◌*◌, false, true, cond, List, leb, ltb, eqb, negsuc, Float}
use Rattle.std.specs.Float.{fin}
use Rattle.floats.specs.Numbers.{◌-ᶠ◌, ◌*ᶠ◌, ◌/ᶠ◌, ◌≤ᶠ◌, of_whole}
use Rattle.floats.specs.Finite.{finite}
use Rattle.elementary.specs.Root.{sqrt}
use Rattle.charts.specs.Runs as Runs
use Rattle.charts.specs.declared.Observation.{Observation}
use Rattle.charts.specs.declared.Place.{Place}
use Rattle.charts.specs.declared.Side.TheVariants as Sided
use Rattle.ewma.specs.declared.Ewma.{Ewma}
use Rattle.ewma.specs.declared.EwmaResult.{EwmaResult}
use Rattle.ewma.specs.declared.State.{State}
use Rattle.ewma.specs.declared.Limits.{Limits}
use Rattle.ewma.specs.declared.Settled.{Settled}
use Rattle.ewma.specs.Chart.{Charted, place_after, half_width_at, within, outside, averaged, blank}

-- half the distance of the limits where the statistic has the share `share` of its variance at rest; at a place that share is 1 less the decay
unfoldable pub width_at : Ewma → Float → Float
width_at c share = c.l_factor *ᶠ c.sigma *ᶠ sqrt (c.lambda /ᶠ (of_whole 2 -ᶠ c.lambda) *ᶠ share)

-- 2 ^ -54: 1 less a decay of that size, or a smaller one, is 1
abbrev pub faint : Float
faint = fin false 1 (negsuc 53)

-- the first of k places, each twice the one before, whose decay is faint, and twice the last where none is
unfoldable pub settled_from : ℕ → ℕ → Float → ℕ
settled_from zero place decay = place
settled_from (suc k) place decay = elim (decay ≤ᶠ faint) [ true ↦ place | false ↦ settled_from k (2 * place) (decay *ᶠ decay) ]

-- the same for a chart, beginning with place 1; a decay above 1 never settles, and no chart reaches place 8,192
unfoldable pub settled_of : Ewma → Settled
settled_of c = let kept = of_whole 1 -ᶠ c.lambda in record { from = settled_from 13 1 (kept *ᶠ kept); half_width = width_at c (of_whole 1) }

-- the width at a place of a chart that stood at `l`: the one at rest where the limits have settled; before that the same at the same place, and the place's own at another
unfoldable pub moving_width : Ewma → Limits → Place → Float
moving_width c l place = cond (eqb place.0 l.place.0) l.half_width (half_width_at c place)

unfoldable pub width_from : Ewma → Limits → Place → Float
width_from c l place = cond (leb l.settled.from place.0) l.settled.half_width (moving_width c l place)

-- `step_of` with a given width
unfoldable pub step_by : Ewma → Float → EwmaResult → Observation → Float → EwmaResult
step_by c half before index x =
    let ewma = averaged c before.ewma x in
    cond (finite x) (within c index half (outside c half ewma) ewma) (within c index half Sided.None before.ewma)

-- the place after the reading `x` at `i`, before which no more than `i` readings had one
abbrev pub at_most : ℕ → ℕ → ℕ
at_most place i = cond (ltb place i) place i

abbrev pub place_from : Ewma → Place → ℕ → Float → Place
place_from c last i x = place_after c.edition (record { 0 = at_most last.0 i }) (record { 0 = i }) x

-- where a chart stands once it is at `place`
abbrev pub limits_at : Ewma → Place → Limits
limits_at c place = record { place = place; half_width = half_width_at c place; settled = settled_of c }

-- where it stands after the reading `x` at `i`
abbrev pub limits_after : Ewma → Limits → ℕ → Float → Limits
limits_after c l i x = let place = place_from c l.place i x in record { place = place; half_width = width_from c l place; settled = l.settled }

-- the states of a run with those widths, which carry them along, and the record that a state shows
abbrev pub shown_of : State → EwmaResult
shown_of s = s.shown

abbrev pub start_state : Ewma → State
start_state c = record { shown = blank c; limits = limits_at c (record { 0 = 0 }) }

abbrev pub next_state : Ewma → State → ℕ → Float → State
next_state c s i x = let limits = limits_after c s.limits i x in record { shown = step_by c limits.half_width s.shown (record { 0 = i }) x; limits = limits }

abbrev pub following_state : Ewma → List Float → ℕ → State → State
following_state = Runs.following next_state

-- the state that stands for a record and its place
abbrev pub state_of : Ewma → Charted → State
state_of c s = record { shown = s.0; limits = limits_at c s.1 }
