-- The range of a channel: its lowest and highest reading. Rule 3.4. Definitions only.
use Rattle.std.specs.Prelude.{ℕ, zero, suc, List, length, get_or, Float}
use Rattle.std.specs.Float.{nan}
use Rattle.floats.specs.Numbers.{◌-ᶠ◌, +∞, -∞}
use Rattle.floats.specs.MaxMin.{larger, smaller}
use Rattle.ranges.specs.declared.Range.{Range}

-- the lowest of the first `i` readings of `xs`, NaNs passed over; +infinity before the first
unfoldable pub lowest_to : List Float → ℕ → Float
lowest_to xs zero = +∞
lowest_to xs (suc i) = smaller (lowest_to xs i) (get_or xs i nan)

-- the highest of the first `i` readings of `xs`, NaNs passed over; -infinity before the first
unfoldable pub highest_to : List Float → ℕ → Float
highest_to xs zero = -∞
highest_to xs (suc i) = larger (highest_to xs i) (get_or xs i nan)

-- the lowest and the highest reading of the channel `xs`
unfoldable pub range_of : List Float → Range
range_of xs = record { lo = lowest_to xs (length xs); hi = highest_to xs (length xs) }

-- `range` with `mean` taken off both its values
abbrev pub about : Range → Float → Range
about range mean = record { lo = range.lo -ᶠ mean; hi = range.hi -ᶠ mean }
