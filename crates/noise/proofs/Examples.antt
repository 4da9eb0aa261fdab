-- Noise variances of short channels, by computation: with the wrong middle, NaN first or the floor left out they would differ. The bit patterns are those that the Rust gives. Assumes nothing.
use mathlib.Core.Path.{◌≡◌, refl}
use mathlib.Core.Bool.{true, false}
use mathlib.Core.List.{List, [], ◌∷◌}
use lib.Ieee.{Float, nan, binary64, is_nan, lt, ne, add, sub, mul, div, of_int, of_bits}
use Rattle.floats.specs.Numbers.{of_whole, ratio, +0}
use Rattle.floats.specs.Finite.{abs}
use Rattle.floats.specs.MaxMin.{larger, smaller}
use Rattle.areas.specs.Parts.{part, tab}
use Rattle.readings.specs.Channels.{has_channel, channel_of}
use Rattle.ranges.specs.Ranges.{lowest_to, highest_to, range_of}
use Rattle.floats.specs.Ahead.{ahead}
use Rattle.medians.specs.Order.{insert, sorted}
use Rattle.medians.specs.Median.{difference_at, differences, median}
use Rattle.noise.specs.Noise.{spread_of, floor_of, noise, noise_sum_to, has_room, cleared}

-- the noise variance, opened: to unfold it is to unfold all that the line names
variance : List Float → Float
unfolding noise spread_of floor_of range_of lowest_to highest_to larger smaller median differences difference_at tab abs sorted insert ahead is_nan ratio of_bits lt ne add sub mul div of_int
variance xs = noise xs

-- differences 3 1 2: the middle one is 2
odd_count : noise (of_whole 0 ∷ of_whole 3 ∷ of_whole 4 ∷ of_whole 6 ∷ []) ≡ of_bits binary64 0x4011959752db3ec6
unfolding variance
odd_count = refl

-- differences 2 1: half their sum is 1.5
even_count : noise (of_whole 0 ∷ of_whole 2 ∷ of_whole 3 ∷ []) ≡ of_bits binary64 0x4003c84a3d36a69f
unfolding variance
even_count = refl

-- differences NaN NaN 1 2 2, of which the NaNs stand last: the middle one is 2
nan_last : noise (of_whole 0 ∷ nan ∷ of_whole 4 ∷ of_whole 5 ∷ of_whole 3 ∷ of_whole 1 ∷ []) ≡ of_bits binary64 0x4011959752db3ec6
unfolding variance
nan_last = refl

-- differences 0 0 0 8: their median is 0, and 1e-6 times the range of 8 stands in for it
the_floor : noise (of_whole 0 ∷ of_whole 0 ∷ of_whole 0 ∷ of_whole 0 ∷ of_whole 8 ∷ []) ≡ of_bits binary64 0x3dd19799812dea11
unfolding variance
the_floor = refl

-- a channel that never changes has no noise
constant : noise (of_whole 5 ∷ of_whole 5 ∷ of_whole 5 ∷ of_whole 5 ∷ []) ≡ +0
unfolding variance
constant = refl

-- nor has a channel with a single reading, or with none
one_reading : noise (of_whole 7 ∷ []) ≡ +0
unfolding noise
one_reading = refl

no_reading : noise [] ≡ +0
unfolding noise
no_reading = refl

-- two channels, the second without noise, and a third that is not there
two_channels : noise_sum_to (of_whole 0 ∷ of_whole 3 ∷ of_whole 4 ∷ of_whole 6 ∷ of_whole 5 ∷ of_whole 5 ∷ of_whole 5 ∷ of_whole 5 ∷ []) 4 3 ≡ of_bits binary64 0x4011959752db3ec6
unfolding variance noise_sum_to channel_of has_channel part
two_channels = refl

-- the differences of 3 readings at the index 1 of an area: two floats are cleared, and room for them is exact
cleared_places : cleared (of_whole 9 ∷ of_whole 9 ∷ of_whole 9 ∷ of_whole 9 ∷ []) 3 1 ≡ of_whole 9 ∷ +0 ∷ +0 ∷ of_whole 9 ∷ []
unfolding cleared
cleared_places = refl

exact_room : has_room 3 3 1 ≡ true
unfolding has_room
exact_room = refl

one_short : has_room 2 3 1 ≡ false
unfolding has_room
one_short = refl
