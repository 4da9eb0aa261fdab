-- The functional search, for the L2 cost on one or two channels. Rules 3.8, 3.10 and 3.11. Definitions only.
use Rattle.std.specs.Prelude.{ℕ, zero, suc, ◌+◌, ◌-◌, ◌^◌, max, true, cond, List, [], ◌∷◌, ◌++◌, map, eqb, leb, length, get_or, set, replicate, Float}
use Rattle.std.specs.Float.{nan}
use Rattle.std.specs.Float.Ieee.{neg}
use Rattle.floats.specs.Numbers.{◌+ᶠ◌, ◌-ᶠ◌, ◌*ᶠ◌, ◌/ᶠ◌, +0, of_whole, ratio}
use Rattle.floats.specs.Finite.{abs}
use Rattle.readings.specs.Channels.{channel_of}
use Rattle.sums.specs.Sums.{mean_of}
use Rattle.ranges.specs.Ranges.{range_of, about}
use Rattle.ranges.specs.declared.Range.{Range}
use Rattle.costs.specs.Costs.{segment_of, cost_to}
use Rattle.costs.specs.declared.CostFunction.TheVariants.{L2}
use Rattle.search_rules.specs.declared.Best.{Best}
use Rattle.search_rules.specs.Minimum.{scan_to}
use Rattle.candidate.specs.declared.Candidate.{Candidate}
use Rattle.candidate_balls.specs.declared.Ball.{Ball}
use Rattle.candidate.specs.Boxes.{ball_of, restrict}
use Rattle.candidate.specs.Cuts.{cut_losing}
use Rattle.candidate.specs.Dominated.{is_dominated}
use Rattle.candidate.specs.Losses.{lose_inside}
use Rattle.search_rules.specs.declared.Facing.{Facing}

-- what is searched: one or two `channels` of `run`, of `n` readings each, for pieces of at least `m` readings, with a `penalty` for each change
pub record Task : Type 0 where
  pub run : List Float
  pub n : ℕ
  pub channels : ℕ
  pub m : ℕ
  pub penalty : Float

-- a living candidate: its index `tau`, the `box` where it can still win, and the balls where it loses
pub record Living : Type 0 where
  pub tau : ℕ
  pub box : Candidate
  pub losing : List Ball

-- F and the predecessors of 0 to n, of which those before t are known; the living candidates, in order, and the most that there have been
pub record State : Type 0 where
  pub f : List Float
  pub last : List ℕ
  pub living : List Living
  pub peak : ℕ

-- ---- the minimum at t
-- the L2 cost of the readings from `a` up to `b`, over the channels
unfoldable pub price : Task → ℕ → ℕ → Float
price k a b = cost_to L2 k.run k.n a b k.channels

-- the indices of the living candidates
unfoldable pub places : List Living → List ℕ
places living = map (λ (c : Living). c.tau) living

-- the best at `t` of the living candidates of `s`
unfoldable pub best_at : Task → ℕ → State → Best
best_at k t s = scan_to (λ tau. true) (λ tau. get_or s.f tau nan +ᶠ price k tau t +ᶠ k.penalty) (places s.living) (length s.living)

-- ---- what candidates a < b mean to each other

-- the mean of the readings of `channel` from `a` up to `b`, less the channel's mean
unfoldable pub centre_along : Task → ℕ → ℕ → ℕ → Float
centre_along k channel a b = let s = segment_of (channel_of k.run k.n channel) a b in s.sum /ᶠ s.length

-- `v`, a number for the second channel, and +0 where there is none
unfoldable pub besides : Task → Float → Float
besides k v = cond (eqb k.channels 1) +0 v

-- the slack: room for the rounding of `fb` and `fa`, F at two candidates `len` readings apart, of the `cost` between them and of the `penalty`
unfoldable pub slack_of : Float → Float → Float → Float → Float → Float
slack_of fb fa cost penalty len = ratio 1 (10 ^ 9) *ᶠ (abs fb +ᶠ abs fa +ᶠ abs cost +ᶠ penalty) /ᶠ len

-- balls about the mean of the readings from `a` up to `b`, with the values `f` of F: `a` can still win only inside the outer one, which is wider by the slack, and `b` loses inside the inner one, which is narrower by it
unfoldable pub facing : Task → List Float → ℕ → ℕ → Facing
facing k f a b =
    let len = of_whole (b - a) in
    let cost = price k a b in
    let fa = get_or f a nan in
    let fb = get_or f b nan in
    let gap = (fb -ᶠ fa -ᶠ cost) /ᶠ len in
    let slack = slack_of fb fa cost k.penalty len in
    record { cx = centre_along k 0 a b; cy = besides k (centre_along k 1 a b); outer = gap +ᶠ slack; inner = gap -ᶠ slack }

abbrev pub outer_ball : Facing → Ball
outer_ball x = ball_of x.cx x.cy x.outer

abbrev pub inner_ball : Facing → Ball
inner_ball x = ball_of x.cx x.cy x.inner

-- ---- b joins
-- the candidate `j` of `living`
abbrev pub living_at : List Living → ℕ → Living
living_at living j = get_or living j (record { tau = 0; box = record { lo = []; hi = [] }; losing = [] })

-- the balls where `b` loses to the first candidates of `living`; the last argument says how many
unfoldable pub lost_to : Task → List Float → ℕ → List Living → ℕ → List Ball
lost_to k f b living zero = []
lost_to k f b living (suc j) = lose_inside (inner_ball (facing k f (living_at living j).tau b)) (lost_to k f b living j)

-- the candidate `c` with its box narrowed by the outer ball that `b` faces it with
unfoldable pub restricted : Task → List Float → ℕ → Living → Living
restricted k f b c = record { tau = c.tau; box = restrict k.channels (outer_ball (facing k f c.tau b)) c.box; losing = c.losing }

-- the candidate `c` with its box cut by its own balls
unfoldable pub cut_back : ℕ → Living → Living
cut_back channels c = record { tau = c.tau; box = cut_losing channels c.losing c.box; losing = c.losing }

-- those of the first candidates of `living` that are not dominated once they are narrowed by `b` and cut by their own balls, in their order; the last argument says how many are looked at
unfoldable pub winners_to : Task → List Float → ℕ → List Living → ℕ → List Living
winners_to k f b living zero = []
winners_to k f b living (suc j) =
    let c = cut_back k.channels (restricted k f b (living_at living j)) in
    let before = winners_to k f b living j in
    cond (is_dominated k.channels c.box) before (before ++ (c ∷ []))

-- the range of `channel`, less its mean
unfoldable pub range_along : Task → ℕ → Range
range_along k channel = let xs = channel_of k.run k.n channel in about (range_of xs) (mean_of xs)

-- the box of the ranges of the channels
unfoldable pub range_box : Task → Candidate
range_box k = record { lo = (range_along k 0).lo ∷ besides k (range_along k 1).lo ∷ []; hi = (range_along k 0).hi ∷ besides k (range_along k 1).hi ∷ [] }

-- `b` itself: the box of the ranges, cut by `balls`
unfoldable pub born : Task → ℕ → List Ball → Living
born k b balls = cut_back k.channels (record { tau = b; box = range_box k; losing = balls })

-- `living` with `c` behind them, unless `c` is dominated
unfoldable pub joined_by : ℕ → Living → List Living → List Living
joined_by channels c living = cond (is_dominated channels c.box) living (living ++ (c ∷ []))

-- the living candidates once `b` has joined
unfoldable pub join_of : Task → List Float → ℕ → List Living → List Living
join_of k f b living = joined_by k.channels (born k b (lost_to k f b living (length living))) (winners_to k f b living (length living))

-- ---- the steps

-- `t + 1 - m` joins at the end of step `t` when it is at least m
unfoldable pub living_after : Task → List Float → ℕ → List Living → List Living
living_after k f t living = cond (leb k.m (t + 1 - k.m)) (join_of k f (t + 1 - k.m) living) living

-- the step at `t`: F(t) and its predecessor are noted, then a candidate may join
unfoldable pub step_of : Task → ℕ → State → State
step_of k t s =
    let best = best_at k t s in
    let f = set s.f t best.cost in
    let living = living_after k f t s.living in
    record { f = f; last = set s.last t best.tau; living = living; peak = max s.peak (length living) }

-- the state after some steps, t from m up: F(0) is minus the penalty, and 0 is the one candidate at first; the last argument says how many steps
unfoldable pub state_after : Task → ℕ → State
state_after k zero =
    record {
      f = set (replicate (k.n + 1) +0) 0 (neg k.penalty);
      last = replicate (k.n + 1) 0;
      living = record { tau = 0; box = range_box k; losing = [] } ∷ [];
      peak = 1;
    }
state_after k (suc d) = step_of k (k.m + d) (state_after k d)

-- the state after the whole search, whose last t is n
unfoldable pub functional : Task → State
functional k = state_after k (k.n + 1 - k.m)
