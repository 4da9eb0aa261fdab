-- What a segment costs by the running sums that an area holds. Definitions only.
use Rattle.std.specs.Prelude.{ℕ, zero, suc, ◌+◌, ◌-◌, ◌*◌, Bool, cond, ◌&&◌, List, length, get_or, nat_le, nat_lt, Float}
use Rattle.std.specs.Float.{nan}
use Rattle.refusals.specs.Limits.{max_channels, max_readings}
use Rattle.floats.specs.Numbers.{◌+ᶠ◌, ◌-ᶠ◌, +0, of_whole}
use Rattle.costs.specs.Costs.{cost_of}
use Rattle.costs.specs.declared.CostFunction.{CostFunction}
use Rattle.costs.specs.declared.Segment.{Segment}

-- the segment from `a` up to `b` of the channel of `n` readings whose running sums stand in `area` at `place`, and those of the squares behind them
unfoldable pub segment_at : List Float → ℕ → ℕ → ℕ → ℕ → Segment
segment_at area n place a b =
    record {
      length = of_whole (b - a);
      sum = get_or area (place + b) nan -ᶠ get_or area (place + a) nan;
      sum_of_squares = get_or area (place + (n + 1) + b) nan -ᶠ get_or area (place + (n + 1) + a) nan;
    }

-- the costs by `cost` of the segment from `a` up to `b`, added over the first channels whose sums stand one after the other from the front of `area`; the last argument says how many channels
unfoldable pub area_cost_to : CostFunction → List Float → ℕ → ℕ → ℕ → ℕ → Float
area_cost_to cost area n a b zero = +0
area_cost_to cost area n a b (suc c) = area_cost_to cost area n a b c +ᶠ cost_of cost (segment_at area n (c * (2 * (n + 1))) a b)

-- `k` channels of `n` readings, within the limits of 8 and 4,096, have a segment from `a` up to `b`, and an area of `size` floats can hold their sums
unfoldable pub segment_fits : ℕ → ℕ → ℕ → ℕ → ℕ → Bool
segment_fits size n k a b = nat_lt a b && (nat_le b n && (nat_le n max_readings && (nat_le k max_channels && nat_le (k * (2 * (n + 1))) size)))

-- the cost by `cost` of the segment from `a` up to `b` in the `k` channels of `n` readings whose sums `area` holds; NaN where it does not fit
unfoldable pub area_cost : CostFunction → List Float → ℕ → ℕ → ℕ → ℕ → Float
area_cost cost area n k a b = cond (segment_fits (length area) n k a b) (area_cost_to cost area n a b k) nan
