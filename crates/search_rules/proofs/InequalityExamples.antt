-- Steps of searches by computation: a winner that is dropped with the others, the first total, an early tie, a NaN penalty; crate `worked_examples` has whole searches. Assumes nothing.
use Prim.Native.Nat.{ℕ, ◌^◌}
use mathlib.Core.Path.{◌≡◌, refl}
use mathlib.Core.List.{List, [], ◌∷◌}
use lib.ListN.{get_or}
use lib.Ieee.{Float, nan, neg, lt, le, size, add, sub, mul, div, of_int}
use Rattle.floats.specs.Numbers.{of_whole, ratio, +0, +∞}
use Rattle.elementary.specs.Logarithm.{ln, ln_scaled, ln_of, series}
use Rattle.areas.specs.Parts.{part}
use Rattle.readings.specs.Channels.{has_channel, channel_of}
use Rattle.sums.specs.Sums.{sum_to, mean_of, centred, centred_to, squares_to}
use Rattle.costs.specs.Costs.{segment_about, segment_of, l2_cost, smallest_normal, normal_cost, cost_of, cost_to}
use Rattle.costs.specs.declared.CostFunction.TheVariants.{L2, Normal}
use Rattle.search_rules.specs.Minimum.{none_yet, better_of, scan_to, kept_to}
use Rattle.search_rules.specs.Inequality.{old_enough, part_of, best_at, stays_at, step_of, state_after, predecessors, price}

-- the search, opened: to unfold it is to unfold all that the line names
found : (ℕ → ℕ → Float) → Float → ℕ → ℕ → List ℕ
unfolding predecessors state_after step_of best_at stays_at part_of old_enough price scan_to kept_to better_of none_yet cost_to cost_of normal_cost l2_cost segment_of segment_about smallest_normal channel_of has_channel part mean_of sum_to centred centred_to squares_to ratio ln ln_scaled ln_of series size add sub mul div lt le neg of_int
found cost penalty m n = predecessors cost penalty m n

steps : List Float
steps = of_whole 0 ∷ of_whole 0 ∷ of_whole 4 ∷ of_whole 4 ∷ []

flat : List Float
flat = of_whole 0 ∷ of_whole 0 ∷ of_whole 0 ∷ of_whole 0 ∷ []

-- Normal, 0 0 0 0, custom 1e-300: at t = 2 the winner 0 goes, for its weight is not below the bound, so F(3) is infinite
winner_gone : (state_after (price Normal flat 4 1) (ratio 1 (10 ^ 300)) 2 4 1).candidates ≡ 2 ∷ []
unfolding found flat
winner_gone = refl

next_is_infinite : get_or (state_after (price Normal flat 4 1) (ratio 1 (10 ^ 300)) 2 4 2).f 3 nan ≡ +∞
unfolding found flat
next_is_infinite = refl

-- F(0) is minus the penalty: one piece has its cost alone, 16
first_total : (state_after (price L2 steps 4 1) (of_whole 1) 4 4 1).f ≡ neg (of_whole 1) ∷ +0 ∷ +0 ∷ +0 ∷ of_whole 16 ∷ []
unfolding found steps
first_total = refl

-- 16 is what the cut at 2 would save: on a tie the earlier candidate wins, and there is no cut
tie : predecessors (price L2 steps 4 1) (of_whole 16) 2 4 ≡ 0 ∷ 0 ∷ 0 ∷ 0 ∷ 0 ∷ []
unfolding found steps
tie = refl

-- a NaN penalty goes on: no total is below infinity, every candidate goes, and t joins
nan_penalty : state_after (price L2 steps 4 1) nan 2 4 3 ≡ record { f = nan ∷ +0 ∷ +∞ ∷ +∞ ∷ +∞ ∷ []; last = 0 ∷ 0 ∷ 0 ∷ 0 ∷ 0 ∷ []; candidates = 4 ∷ [] }
unfolding found steps
nan_penalty = refl
