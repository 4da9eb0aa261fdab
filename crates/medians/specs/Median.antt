-- The median of the magnitudes of a channel's first differences, and what working it out leaves in a lent area. Rule 3.4. Definitions only.
use Rattle.std.specs.Prelude.{ℕ, ◌+◌, ◌-◌, ◌/◌, ◌%◌, ◌≡◌, Bool, ◌&&◌, cond, List, eqb, ltb, length, get_or, replicate, Float}
use Rattle.std.specs.Float.{nan}
use Rattle.floats.specs.Numbers.{◌+ᶠ◌, ◌-ᶠ◌, ◌*ᶠ◌, +0, ratio}
use Rattle.floats.specs.Finite.{abs}
use Rattle.areas.specs.Parts.{tab}
use Rattle.medians.specs.Order.{sorted}

-- the magnitude of the difference between the readings `i + 1` and `i` of `xs`
unfoldable pub difference_at : List Float → ℕ → Float
difference_at xs i = abs (get_or xs (i + 1) nan -ᶠ get_or xs i nan)

-- the differences of the channel `xs`, one for each reading but the first
unfoldable pub differences : List Float → List Float
differences xs = tab (difference_at xs) (length xs - 1)

-- of `xs` in order: the middle one of an odd count, 0.5 times the sum of the two middle ones of an even one
unfoldable pub median : List Float → Float
median xs =
    let half = length xs / 2 in
    cond (eqb (length xs % 2) 1)
    (get_or (sorted xs) half nan)
    (ratio 1 2 *ᶠ (get_or (sorted xs) (half - 1) nan +ᶠ get_or (sorted xs) half nan))

-- an area of `places` floats has exactly one for each difference of `readings` readings, and at least one
unfoldable pub fits_run : ℕ → ℕ → Bool
fits_run places readings = ltb 0 places && eqb (places + 1) readings

-- `r` is the median of the differences of `channel`, and the lent area `before` is +0 throughout in `after`; where it does not fit, `r` is NaN and `after` is `before`
pub record Found (channel before after : List Float) (r : Float) : Type 0 where
  pub answer : r ≡ cond (fits_run (length before) (length channel)) (median (differences channel)) nan
  pub run : after ≡ cond (fits_run (length before) (length channel)) (replicate (length before) +0) before
