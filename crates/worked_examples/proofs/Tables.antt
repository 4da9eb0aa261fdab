-- The two tables hold, by computation. Assumes nothing.
use mathlib.Core.Path.{◌≡◌, refl, sym, ap₂, ◌∙◌}
use mathlib.Core.List.{List, ◌++◌, map-append}
use lib.ListN.{length}
use lib.Ieee.{neg, is_nan, eq, ne, lt, le, size, add, sub, mul, div, of_int, of_bits}
use Rattle.floats.specs.Numbers.{ratio}
use Rattle.floats.specs.Finite.{abs}
use Rattle.floats.specs.MaxMin.{larger, smaller}
use Rattle.floats.specs.Ahead.{ahead}
use Rattle.elementary.specs.Root.{sqrt}
use Rattle.elementary.specs.Power.{powi, pow_from}
use Rattle.elementary.specs.Logarithm.{ln, ln_scaled, ln_of, series}
use Rattle.refusals.specs.Tried.{tried}
use Rattle.areas.specs.Parts.{part, tab}
use Rattle.readings.specs.Shape.{total_to, same_to, shape_tests}
use Rattle.readings.specs.Gaps.{gap_to, channel_at, index_at}
use Rattle.readings.specs.Channels.{has_channel, channel_of}
use Rattle.sums.specs.Sums.{sum_to, mean_of, centred, centred_to, squares_to}
use Rattle.ranges.specs.Ranges.{lowest_to, highest_to, range_of}
use Rattle.medians.specs.Order.{insert, sorted}
use Rattle.medians.specs.Median.{difference_at, differences, median}
use Rattle.noise.specs.Noise.{spread_of, floor_of, noise, noise_sum_to}
use Rattle.costs.specs.Costs.{segment_about, segment_of, l2_cost, smallest_normal, normal_cost, cost_of, cost_to}
use Rattle.costs.specs.Penalties.{bic_penalty, penalty_of}
use Rattle.search_rules.specs.Minimum.{none_yet, better_of, scan_to, kept_to}
use Rattle.search_rules.specs.Inequality as Inequality
use Rattle.candidate.specs.Boxes.{span_at, with_span, over_channels, along_each, gap2, narrowed, missed, nothing, restrict}
use Rattle.candidate.specs.Cuts.{far2, inside, moved, cut_ends, cut_span, cut_by, cut_to, cut_losing}
use Rattle.candidate.specs.Dominated.{is_dominated}
use Rattle.candidate.specs.Losses.{narrowest_to, displace, lose_inside}
use Rattle.search_rules.specs.Functional.{price, places, best_at, centre_along, besides, slack_of, facing, lost_to, restricted, cut_back, winners_to, range_along, range_box, born, joined_by, join_of, living_after, step_of, state_after, functional}
use Rattle.backtrack.specs.Cuts.{predecessor_of, back_from, cuts_of}
use Rattle.search_answer.specs.Tests.{bad_penalty, short_room, room_tests, search_tests}
use Rattle.search_answer.specs.Search.{penalty_value, pruned_cuts, functional_cuts, takes_functional, cuts_by, cuts_with, cuts_found}
use Rattle.search_answer.specs.Outcome.{found_outcome, outcome_by}
use Rattle.search_rules.specs.Room.{room_fits}
use Rattle.charts.specs.Answers.{chart_answer}
use Rattle.charts.specs.Sides.{side_of}
use Rattle.cusum.specs.Chart as Cusum
use Rattle.cusum.specs.RunLength.{heard_from, heard, run_length}
use Rattle.ewma.specs.Chart as Ewma
use Rattle.worked_examples.specs.Calls.{Call, Outcome, resolved_by, outcome}
use Rattle.worked_examples.specs.Rows.{Row, Hold, sums_from, averages_from, balls_from}
use Rattle.worked_examples.specs.Marked.{marked_rows}
use Rattle.worked_examples.specs.Further.{functional_rows, slack_rows, rounding_rows, further_rounding_rows, inequality_rows, noise_rows, penalty_rows, refusal_rows, chart_rows, setting_rows, side_rows, edition_rows, ball_rows, logarithm_rows, further_rows}

-- an outcome, opened: to unfold it is to unfold all that the line names
opened : Call → Outcome
unfolding outcome resolved_by balls_from sums_from averages_from chart_answer side_of Cusum.step_of Cusum.new_of Cusum.tests_of heard_from heard run_length Ewma.step_of Ewma.new_of Ewma.tests_of Ewma.half_width_at
    search_tests room_tests short_room room_fits bad_penalty shape_tests total_to same_to gap_to channel_at index_at tried
    cuts_found cuts_with cuts_by takes_functional functional_cuts pruned_cuts penalty_value penalty_of bic_penalty found_outcome outcome_by cuts_of back_from predecessor_of
    noise_sum_to noise spread_of floor_of median differences difference_at sorted insert tab
    functional state_after step_of living_after join_of joined_by born range_box range_along winners_to cut_back restricted lost_to facing slack_of besides centre_along best_at places price
    Inequality.old_enough Inequality.part_of Inequality.best_at Inequality.stays_at Inequality.step_of Inequality.state_after Inequality.predecessors Inequality.price
    scan_to better_of none_yet kept_to cost_to cost_of l2_cost normal_cost smallest_normal segment_of segment_about channel_of has_channel part mean_of sum_to centred centred_to squares_to
    lowest_to highest_to range_of larger smaller abs ahead sqrt span_at with_span over_channels along_each gap2 narrowed missed nothing restrict is_dominated
    narrowest_to displace lose_inside far2 inside moved cut_ends cut_span cut_by cut_to cut_losing
    powi pow_from ln ln_scaled ln_of series ratio size is_nan add sub mul div lt le eq ne neg of_int of_bits
opened call = outcome call

-- ---- the tables

-- how many rows there are: of the marked examples P8, P9 and P13 have two each
pub sizes : (length marked_rows ≡ 16) × (length further_rows ≡ 142)
unfolding marked_rows further_rows functional_rows inequality_rows noise_rows refusal_rows chart_rows setting_rows side_rows edition_rows ball_rows slack_rows penalty_rows rounding_rows further_rounding_rows logarithm_rows
sizes = (refl, refl)

-- P1 to P13
pub marked : Hold marked_rows
unfolding opened marked_rows
marked = refl

-- our own rows, part by part
both : (xs ys : List Row) → Hold xs → Hold ys → Hold (xs ++ ys)
both xs ys p q =
    map-append (λ (r : Row). outcome r.call) xs ys ∙ ap₂ (λ outcomes others. outcomes ++ others) p q ∙ sym (map-append (λ (r : Row). r.expected) xs ys)

functional_rows_lem : Hold functional_rows
unfolding opened functional_rows
functional_rows_lem = refl

inequality_rows_lem : Hold inequality_rows
unfolding opened inequality_rows
inequality_rows_lem = refl

noise_rows_lem : Hold noise_rows
unfolding opened noise_rows
noise_rows_lem = refl

refusal_rows_lem : Hold refusal_rows
unfolding opened refusal_rows
refusal_rows_lem = refl

chart_rows_lem : Hold chart_rows
unfolding opened chart_rows
chart_rows_lem = refl

setting_rows_lem : Hold setting_rows
unfolding opened setting_rows
setting_rows_lem = refl

side_rows_lem : Hold side_rows
unfolding opened side_rows
side_rows_lem = refl

edition_rows_lem : Hold edition_rows
unfolding opened edition_rows
edition_rows_lem = refl

ball_rows_lem : Hold ball_rows
unfolding opened ball_rows
ball_rows_lem = refl

slack_rows_lem : Hold slack_rows
unfolding opened slack_rows
slack_rows_lem = refl

penalty_rows_lem : Hold penalty_rows
unfolding opened penalty_rows
penalty_rows_lem = refl

rounding_rows_lem : Hold rounding_rows
unfolding opened rounding_rows
rounding_rows_lem = refl

further_rounding_rows_lem : Hold further_rounding_rows
unfolding opened further_rounding_rows
further_rounding_rows_lem = refl

logarithm_rows_lem : Hold logarithm_rows
unfolding opened logarithm_rows
logarithm_rows_lem = refl

-- all of them
pub further : Hold further_rows
unfolding further_rows
further =
    both functional_rows (inequality_rows ++ (noise_rows ++ (refusal_rows ++ (chart_rows ++ (setting_rows ++ (side_rows ++ (edition_rows ++ (ball_rows ++ (slack_rows ++ (penalty_rows ++ (rounding_rows ++ (further_rounding_rows ++ logarithm_rows)))))))))))) functional_rows_lem
    (both inequality_rows (noise_rows ++ (refusal_rows ++ (chart_rows ++ (setting_rows ++ (side_rows ++ (edition_rows ++ (ball_rows ++ (slack_rows ++ (penalty_rows ++ (rounding_rows ++ (further_rounding_rows ++ logarithm_rows))))))))))) inequality_rows_lem
    (both noise_rows (refusal_rows ++ (chart_rows ++ (setting_rows ++ (side_rows ++ (edition_rows ++ (ball_rows ++ (slack_rows ++ (penalty_rows ++ (rounding_rows ++ (further_rounding_rows ++ logarithm_rows)))))))))) noise_rows_lem
    (both refusal_rows (chart_rows ++ (setting_rows ++ (side_rows ++ (edition_rows ++ (ball_rows ++ (slack_rows ++ (penalty_rows ++ (rounding_rows ++ (further_rounding_rows ++ logarithm_rows))))))))) refusal_rows_lem
    (both chart_rows (setting_rows ++ (side_rows ++ (edition_rows ++ (ball_rows ++ (slack_rows ++ (penalty_rows ++ (rounding_rows ++ (further_rounding_rows ++ logarithm_rows)))))))) chart_rows_lem
    (both setting_rows (side_rows ++ (edition_rows ++ (ball_rows ++ (slack_rows ++ (penalty_rows ++ (rounding_rows ++ (further_rounding_rows ++ logarithm_rows))))))) setting_rows_lem
    (both side_rows (edition_rows ++ (ball_rows ++ (slack_rows ++ (penalty_rows ++ (rounding_rows ++ (further_rounding_rows ++ logarithm_rows)))))) side_rows_lem
    (both edition_rows (ball_rows ++ (slack_rows ++ (penalty_rows ++ (rounding_rows ++ (further_rounding_rows ++ logarithm_rows))))) edition_rows_lem
    (both ball_rows (slack_rows ++ (penalty_rows ++ (rounding_rows ++ (further_rounding_rows ++ logarithm_rows)))) ball_rows_lem
    (both slack_rows (penalty_rows ++ (rounding_rows ++ (further_rounding_rows ++ logarithm_rows))) slack_rows_lem
    (both penalty_rows (rounding_rows ++ (further_rounding_rows ++ logarithm_rows)) penalty_rows_lem
    (both rounding_rows (further_rounding_rows ++ logarithm_rows) rounding_rows_lem
    (both further_rounding_rows logarithm_rows further_rounding_rows_lem logarithm_rows_lem))))))))))))
