-- A sum over the channels that starts at a number, as `Iterator::sum` does at a zero. Definitions only.
use Rattle.std.specs.Prelude.{ℕ, cond, eqb, Float}
use Rattle.floats.specs.Numbers.{◌+ᶠ◌}

unfoldable pub over_channels_from : Float → ℕ → (ℕ → Float) → Float
over_channels_from start channels g = cond (eqb channels 1) (start +ᶠ g 0) (start +ᶠ g 0 +ᶠ g 1)
