-- What the private functions below `range_of` promise one another: a range with more readings taken in, and readings beyond a range. No public contract cites this file. Definitions only.
use Rattle.std.specs.Prelude.{Bool, ◌||◌, cond, fold, List, Float}
use Rattle.floats.specs.Numbers.{◌<ᶠ◌}
use Rattle.ranges.specs.declared.Range.{Range}

-- `x` is below `range` or above it
abbrev pub beyond : Range → Float → Bool
beyond range x = (x <ᶠ range.lo) || (range.hi <ᶠ x)

-- `range` with `x` taken in, by one comparison of each of its values
abbrev pub with_reading : Range → Float → Range
with_reading range x = record { lo = cond (x <ᶠ range.lo) x range.lo; hi = cond (range.hi <ᶠ x) x range.hi }

-- `range` with the readings `xs` taken in, in their order
abbrev pub taken_in : Range → List Float → Range
taken_in range xs = fold with_reading range xs
