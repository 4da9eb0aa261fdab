-- The cost of a segment, in one channel and added over the channels. Rule 3.6. Definitions only.
use Rattle.std.specs.Prelude.{ℕ, zero, suc, ◌-◌, ◌^◌, cond, List, Float}
use Rattle.floats.specs.Numbers.{◌+ᶠ◌, ◌-ᶠ◌, ◌*ᶠ◌, ◌/ᶠ◌, ◌≤ᶠ◌, +0, of_whole, ratio}
use Rattle.elementary.specs.Logarithm.{ln}
use Rattle.readings.specs.Channels.{channel_of}
use Rattle.sums.specs.Sums.{mean_of, centred_to, squares_to}
use Rattle.costs.specs.declared.CostFunction.{CostFunction}
use Rattle.costs.specs.declared.Segment.{Segment}

-- the readings of the channel `xs` from `a` up to `b`, without `b`: differences of the running sums about `mean`
unfoldable pub segment_about : List Float → Float → ℕ → ℕ → Segment
segment_about xs mean a b =
    record { length = of_whole (b - a); sum = centred_to xs mean b -ᶠ centred_to xs mean a; sum_of_squares = squares_to xs mean b -ᶠ squares_to xs mean a }

-- the readings of the channel `xs` from `a` up to `b`, about the channel's mean
unfoldable pub segment_of : List Float → ℕ → ℕ → Segment
segment_of xs a b = segment_about xs (mean_of xs) a b

-- L2: the sum of squares less length·mean·mean, multiplied left to right
unfoldable pub l2_cost : Segment → Float
l2_cost s = let mean = s.sum /ᶠ s.length in s.sum_of_squares -ᶠ s.length *ᶠ mean *ᶠ mean

-- the smallest normal number
unfoldable pub smallest_normal : Float
smallest_normal = ratio 1 (2 ^ 1022)

-- Normal: length·ln(variance), with ln of the smallest normal number where variance is at or below 0
unfoldable pub normal_cost : Segment → Float
normal_cost s =
    let variance = l2_cost s /ᶠ s.length in
    cond (variance ≤ᶠ +0) (s.length *ᶠ ln smallest_normal) (s.length *ᶠ ln variance)

-- the cost of the segment `s` by the cost function
unfoldable pub cost_of : CostFunction → Segment → Float
cost_of CostFunction.L2 s = l2_cost s
cost_of CostFunction.Normal s = normal_cost s

-- the costs by `cost` of the readings from `a` up to `b`, added from +0 on in channel order over the first channels of `run`, of `n` readings each; the last argument says how many channels
unfoldable pub cost_to : CostFunction → List Float → ℕ → ℕ → ℕ → ℕ → Float
cost_to cost run n a b zero = +0
cost_to cost run n a b (suc c) = cost_to cost run n a b c +ᶠ cost_of cost (segment_of (channel_of run n c) a b)
