-- Searches by computation: who is born and dropped, slots, two cuts, two channels; crate `worked_examples` has P1 to P9 and more. Assumes nothing.
use Prim.Native.Nat.{ℕ}
use mathlib.Core.Path.{◌≡◌, refl}
use mathlib.Core.Bool.{true, false}
use mathlib.Core.List.{List, [], ◌∷◌, ◌++◌, map}
use lib.Ieee.{Float, nan, neg, eq, ne, lt, le, size, add, sub, mul, div, of_int}
use Rattle.floats.specs.Numbers.{of_whole, ratio}
use Rattle.floats.specs.MaxMin.{larger, smaller}
use Rattle.floats.specs.Finite.{abs}
use Rattle.elementary.specs.Root.{sqrt}
use Rattle.areas.specs.Parts.{part}
use Rattle.readings.specs.Channels.{has_channel, channel_of}
use Rattle.sums.specs.Sums.{sum_to, mean_of, centred, centred_to, squares_to}
use Rattle.ranges.specs.Ranges.{lowest_to, highest_to, range_of}
use Rattle.costs.specs.Costs.{segment_about, segment_of, l2_cost, cost_of, cost_to}
use Rattle.search_rules.specs.Minimum.{none_yet, better_of, scan_to}
use Rattle.candidate.specs.Boxes.{span_at, with_span, over_channels, along_each, gap2, narrowed, missed, nothing, restrict}
use Rattle.candidate.specs.Cuts.{far2, inside, moved, cut_ends, cut_span, cut_by, cut_to, cut_losing}
use Rattle.candidate.specs.Dominated.{is_dominated}
use Rattle.candidate.specs.Losses.{ahead, narrowest_to, displace, lose_inside}
use Rattle.search_rules.specs.Functional.{Task, State, price, places, best_at, centre_along, besides, slack_of, facing, lost_to, restricted, cut_back, winners_to, range_along, range_box, born, joined_by, join_of, living_after, step_of, state_after, functional}
use Rattle.search_rules.specs.Partitioned.{slots_suffice}

-- the search, opened: to unfold it is to unfold all that the line names
search : Task → State
unfolding functional state_after step_of living_after join_of joined_by born range_box range_along winners_to cut_back restricted lost_to facing slack_of besides centre_along best_at places price scan_to better_of none_yet cost_to cost_of l2_cost segment_of segment_about channel_of has_channel part mean_of sum_to centred centred_to squares_to lowest_to highest_to range_of larger smaller abs sqrt span_at with_span over_channels along_each gap2 narrowed missed nothing restrict is_dominated ahead narrowest_to displace lose_inside far2 inside moved cut_ends cut_span cut_by cut_to cut_losing ratio size add sub mul div lt le eq ne neg of_int
search k = functional k

-- m is 2, so that the first step is t = 2
abbrev row : ℕ → ℕ → List Float → Float → Task
row channels n run penalty = record { run = run; n = n; channels = channels; m = 2; penalty = penalty }

-- ---- 0 0 4 4
abbrev step : List Float
step = of_whole 0 ∷ of_whole 0 ∷ of_whole 4 ∷ of_whole 4 ∷ []

-- with custom 1 the candidate 0 is dominated when 3 joins, and dropped
one_is_dropped : map (λ d. places (state_after (row 1 4 step (of_whole 1)) d).living) (2 ∷ 3 ∷ []) ≡ (0 ∷ 2 ∷ []) ∷ (2 ∷ 3 ∷ []) ∷ []
unfolding search
one_is_dropped = refl

-- ---- 0 NaN 4 4, custom 1
abbrev gap : Task
gap = row 1 4 (of_whole 0 ∷ nan ∷ of_whole 4 ∷ of_whole 4 ∷ []) (of_whole 1)

-- nobody is dropped, so all births show: after t = 2, where b = 1 is below m, after t = 3 and after t = 4
all_births : map (λ d. places (state_after gap d).living) (1 ∷ 2 ∷ 3 ∷ []) ≡ (0 ∷ []) ∷ (0 ∷ 2 ∷ []) ∷ (0 ∷ 2 ∷ 3 ∷ []) ∷ []
unfolding search
all_births = refl

-- the three that live at once take three slots of 200 floats, and a float less is too little
three_slots : map (slots_suffice gap) (599 ∷ 600 ∷ []) ≡ false ∷ true ∷ []
unfolding search slots_suffice
three_slots = refl

-- ---- 0 0 4 4 0 0, custom 1: the cuts are 4 and, before it, 2
two_cuts : (functional (row 1 6 (step ++ (of_whole 0 ∷ of_whole 0 ∷ [])) (of_whole 1))).last ≡ 0 ∷ 0 ∷ 0 ∷ 0 ∷ 2 ∷ 2 ∷ 4 ∷ []
unfolding search
two_cuts = refl

-- ---- two channels that both step, custom 1
both_step : (functional (row 2 4 (step ++ step) (of_whole 2))).last ≡ 0 ∷ 0 ∷ 0 ∷ 0 ∷ 2 ∷ []
unfolding search
both_step = refl
