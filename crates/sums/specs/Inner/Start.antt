-- The sum of a channel from another start than +0: Rust's `Iterator::sum` starts at -0 or at +0, by its release. Definitions only.
use Rattle.std.specs.Prelude.{ℕ, zero, suc, T, List, length, get_or, Float}
use Rattle.std.specs.Float.{nan, binary64}
use Rattle.std.specs.Float.Ieee.{fits}
use Rattle.floats.specs.Numbers.{◌+ᶠ◌, ◌/ᶠ◌, of_whole}

-- the sum of the first `i` readings of `xs`, and of all over their number, where the sum starts at `start`
unfoldable pub sum_from : Float → List Float → ℕ → Float
sum_from start xs zero = start
sum_from start xs (suc i) = sum_from start xs i +ᶠ get_or xs i nan

unfoldable pub mean_from : Float → List Float → Float
mean_from start xs = sum_from start xs (length xs) /ᶠ of_whole (length xs)

-- every reading of `xs` is a value of binary64, as those of a lent slice are
abbrev pub EachFits : List Float → Type 0
EachFits xs = (i : ℕ) → T (fits binary64 (get_or xs i nan))
