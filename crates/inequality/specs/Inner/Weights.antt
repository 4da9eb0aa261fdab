-- The weights of the candidates as the areas give them, and the lowest of them, for the private functions. Definitions only.
use Rattle.std.specs.Prelude.{ℕ, zero, suc, ◌+◌, ◌-◌, ◌*◌, ◌≤◌, ◌<◌, ◌≡◌, true, false, cond, List, ◌++◌, drop, ltb, length, get_or, Float}
use Rattle.std.specs.Float.{nan}
use Rattle.floats.specs.Numbers.{◌+ᶠ◌, ◌-ᶠ◌, ◌*ᶠ◌, ◌/ᶠ◌, ◌≤ᶠ◌, +0, -∞, of_whole}
use Rattle.areas.specs.Parts.{part, tab, Frame}
use Rattle.costs.specs.Costs.{cost_of, l2_cost, smallest_normal}
use Rattle.costs.specs.declared.CostFunction.{CostFunction}
use Rattle.costs.specs.declared.Segment.{Segment}
use Rattle.search_rules.specs.declared.Best.{Best}
use Rattle.search_rules.specs.Minimum.{none_yet, better_of}
use Rattle.search_rules.specs.Inequality.{old_enough}
use Rattle.inequality.specs.declared.Plan.{Plan}
use Rattle.inequality.specs.declared.views.Channel.{Channel}
use Rattle.inequality.specs.declared.views.View.{View}

-- the first `old` of `candidates` are at least `m` old at `t`, and the others are not
pub record Parted (m t : ℕ) (candidates : List ℕ) (old : ℕ) : Type 0 where
  pub few : old ≤ length candidates
  pub front : (j : ℕ) → j < old → old_enough m t (get_or candidates j 0) ≡ true
  pub tail : (j : ℕ) → old ≤ j → j < length candidates → old_enough m t (get_or candidates j 0) ≡ false

-- `after` holds the values `value 0`, `value 1`, .. at the indices from `place` up to `place + size`, and what `before` held at the others
pub record Written {A : Type 0} (before after : List A) (place : ℕ) (value : ℕ → A) (size : ℕ) : Type 0 where
  pub held : part after place size ≡ tab value size
  pub frame : Frame before after place size

-- the segment to `t` from the candidate `tau`, the `j`-th of the list from 0, in the channel whose parts, of `w` floats each, stand in `area` at `place`
unfoldable pub segment_by : List Float → ℕ → ℕ → ℕ → ℕ → ℕ → Segment
segment_by area w place j tau t =
    record {
      length = of_whole (t - tau);
      sum = get_or area (place + t) nan -ᶠ get_or area (place + j) nan;
      sum_of_squares = get_or area (place + w + t) nan -ᶠ get_or area (place + w + j) nan;
    }

-- the cost of that segment, added over the first channels; the last argument says how many
unfoldable pub cost_by : CostFunction → List Float → ℕ → ℕ → ℕ → ℕ → ℕ → Float
cost_by cost area w j tau t zero = +0
cost_by cost area w j tau t (suc c) = cost_by cost area w j tau t c +ᶠ cost_of cost (segment_by area w (2 * c * w) j tau t)

-- `variance`, or the smallest normal number where it is at or below 0
unfoldable pub raised : Float → Float
raised variance = cond (variance ≤ᶠ +0) smallest_normal variance

-- the cost of the candidate `j` of a view to its t, added over the first `channels` channels
unfoldable pub costs_at : CostFunction → View → ℕ → ℕ → Float
costs_at cost v channels j = cost_by cost v.parts.now v.w j (get_or v.candidates.now j 0) v.t channels

-- the segment to t from the candidate `j` of a channel
unfoldable pub segment_at : Channel → ℕ → Segment
segment_at k j = record { length = of_whole (k.t - get_or k.candidates.now j 0); sum = k.sum -ᶠ get_or k.sums.now j nan; sum_of_squares = k.squared -ᶠ get_or k.squares.now j nan }

-- the weight of the candidate `j`, of `weights`, and the cost of its segment
unfoldable pub with_cost : CostFunction → Channel → List Float → ℕ → Float
with_cost cost k weights j = get_or weights j nan +ᶠ cost_of cost (segment_at k j)

-- the same of two channels
unfoldable pub with_costs : CostFunction → Channel → Channel → List Float → ℕ → Float
with_costs cost k next weights j = with_cost cost k weights j +ᶠ cost_of cost (segment_at next j)

-- the weight of the candidate `j`, of `weights`, and its length times its logarithm
unfoldable pub with_logarithm : Channel → List Float → List Float → ℕ → Float
with_logarithm k logarithms weights j = get_or weights j nan +ᶠ of_whole (k.t - get_or k.candidates.now j 0) *ᶠ get_or logarithms j nan

-- the variance of the segment from the candidate `j`
unfoldable pub variance_at : Channel → ℕ → Float
variance_at k j = raised (l2_cost (segment_at k j) /ᶠ (segment_at k j).length)

-- `values` once the first `j` of them were written, with the values of `g`
unfoldable pub filled : {A : Type 0} → (ℕ → A) → List A → ℕ → List A
filled g values j = tab g j ++ drop j values

-- the weight of the candidate `j` at `t`: F plus the cost for the first `old`, minus infinity for those behind them
unfoldable pub weight_by : Plan → List Float → List ℕ → ℕ → ℕ → ℕ → Float
weight_by q area candidates old t j =
    cond (ltb j old) (get_or area (q.f + j) nan +ᶠ cost_by q.cost area (q.n + 1) j (get_or candidates j 0) t q.channels) -∞

-- the best of the first `j` of `candidates`, by their `weights` and the `penalty`
unfoldable pub lowest_by : Float → List Float → List ℕ → ℕ → Best
lowest_by penalty weights candidates zero = none_yet
lowest_by penalty weights candidates (suc j) = better_of (lowest_by penalty weights candidates j) (get_or weights j nan +ᶠ penalty) (get_or candidates j 0)
