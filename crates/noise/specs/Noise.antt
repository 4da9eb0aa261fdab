-- The noise variance of a channel, its sum over channels, and what working it out leaves in a lent area. Rules 3.4 and 8.4. Definitions only.
use Rattle.std.specs.Prelude.{ℕ, zero, suc, ◌+◌, ◌-◌, ◌^◌, ◌≡◌, Bool, cond, List, ◌++◌, ltb, leb, length, take, drop, replicate, Float}
use Rattle.std.specs.Float.{nan}
use Rattle.floats.specs.Numbers.{◌+ᶠ◌, ◌-ᶠ◌, ◌*ᶠ◌, ◌/ᶠ◌, +0, ratio}
use Rattle.floats.specs.MaxMin.{larger}
use Rattle.readings.specs.Channels.{channel_of}
use Rattle.ranges.specs.Ranges.{range_of}
use Rattle.ranges.specs.declared.Range.{Range}
use Rattle.medians.specs.Median.{differences, median}

-- the median `m` of some differences over 0.6745 * 1.4142135623730951
unfoldable pub spread_of : Float → Float
spread_of m = m /ᶠ (ratio 6745 10000 *ᶠ ratio 14142135623730951 (10 ^ 16))

-- 1e-6 times the width of `range`
unfoldable pub floor_of : Range → Float
floor_of range = ratio 1 1000000 *ᶠ (range.hi -ᶠ range.lo)

abbrev pub squared : Float → Float
squared x = x *ᶠ x

-- `spread_of` the median of the differences of the channel `xs`, at least `floor_of` its range, squared; +0 for fewer than 2 readings
unfoldable pub noise : List Float → Float
noise xs = cond (ltb (length xs) 2) +0 (squared (larger (spread_of (median (differences xs))) (floor_of (range_of xs))))

-- the noise variances of the channels 0 to c - 1 of `run`, of `n` readings each, added in that order, for the c that is given
unfoldable pub noise_sum_to : List Float → ℕ → ℕ → Float
noise_sum_to run n zero = +0
noise_sum_to run n (suc c) = noise_sum_to run n c +ᶠ noise (channel_of run n c)

-- an area of `size` floats has room for the differences of `n` readings at `place`
unfoldable pub has_room : ℕ → ℕ → ℕ → Bool
has_room size n place = leb (place + (n - 1)) size

-- `area` with +0 for the differences of `n` readings at `place`
unfoldable pub cleared : List Float → ℕ → ℕ → List Float
cleared area n place = take place area ++ (replicate (n - 1) +0 ++ drop (place + (n - 1)) area)

-- `r` is `value`, and `after` is `before` with the differences of `n` readings at `place` cleared; where `before` has no room for them `r` is NaN and `after` is `before`
pub record Lent (value : Float) (n place : ℕ) (before after : List Float) (r : Float) : Type 0 where
  pub answer : r ≡ cond (has_room (length before) n place) value nan
  pub area : after ≡ cond (has_room (length before) n place) (cleared before n place) before
