-- Max and min. Each returns the other operand of a NaN; of two equal numbers, zeros of either sign among them, the first. Rule 1.4. Definitions only.
use Rattle.std.specs.Prelude.{cond, Float}
use Rattle.std.specs.Float.Ieee.{ne}
use Rattle.floats.specs.Numbers.{◌<ᶠ◌}

-- `y` where `x` is below it or `x` is NaN, and `x` otherwise
unfoldable pub larger : Float → Float → Float
larger x y = cond (x <ᶠ y) y (cond (ne x x) y x)

-- `y` where it is below `x` or `x` is NaN, and `x` otherwise
unfoldable pub smaller : Float → Float → Float
smaller x y = cond (y <ᶠ x) y (cond (ne x x) y x)
