-- Rows of our own, Q1 to Q142: each catches a wrong program that the worked examples let pass. Definitions only.
use Rattle.std.specs.Prelude.{◌-◌, ◌*◌, ◌^◌, true, false, List, [], ◌∷◌, ◌++◌, replicate, Float}
use Rattle.std.specs.Float.{nan}
use Rattle.std.specs.Float.Ieee.{neg}
use Rattle.floats.specs.Numbers.{+0, +∞, -∞, of_whole, ratio}
use Rattle.refusals.specs.Stated.{plain}
use Rattle.costs.specs.declared.CostFunction.TheVariants.{L2, Normal}
use Rattle.costs.specs.declared.Penalty.TheVariants.{Bic, Custom}
use Rattle.candidate_balls.specs.declared.Ball.{Ball}
use Rattle.charts.specs.declared.Side.TheVariants.{None, Above, Below, Both}
use Rattle.charts.specs.declared.Sum.TheVariants.{Upper, Lower}
use Rattle.cusum.specs.Chart as Cusum
use Rattle.cusum.specs.declared.Cusum.{Cusum}
use Rattle.ewma.specs.Chart as Ewma
use Rattle.ewma.specs.declared.Ewma.{Ewma}
use Rattle.ewma.specs.declared.Edition.{Edition}
use Rattle.ewma.specs.declared.Edition.TheVariants.{First, Second}
use Rattle.worked_examples.specs.Rows.{Row, wholes, ten_billionths, of_pattern, custom, halves, sevens, within, among, plainly, strictly, finds, runs_out, refuses, resolves, gap_at, sums_are, averages_are, sums_signal, averages_signal, sums_refuse, averages_refuse, hears, refuses_to_hear, ball, balls_from, keeps, logarithm_is}
use Rattle.worked_examples.specs.Marked.{step, gap, sums, averages}

-- four readings alike
abbrev level : List Float
level = replicate 4 (of_whole 1)

-- a chart whose sigma is 0
abbrev bad_sums : Cusum
bad_sums = Cusum.new_of +0 +0

-- charts whose settings are all out of range
abbrev no_sums : Cusum
no_sums = Cusum.with_params nan +0 (neg (of_whole 1)) +0

abbrev no_averages : Ewma
no_averages = Ewma.with_params nan +0 +0 +0 First

-- lambda 0.5 and L 4: the limits lie 0, 2, 2.236 and 2.291 from the target 0 at the places 0 to 3
abbrev halving : Edition → Ewma
halving edition = Ewma.with_params +0 (of_whole 1) (ratio 1 2) (of_whole 4) edition

-- lambda 1, and an L·sigma that is infinite
abbrev unbounded : Ewma
unbounded = Ewma.with_params +0 (ratio (10 ^ 200) 1) (of_whole 1) (ratio (10 ^ 200) 1) Second

-- more readings than are taken
abbrev too_many : List Float
too_many = replicate 4097 +0

-- ---- the functional search
unfoldable pub functional_rows : List Row
functional_rows =
    -- Q1 the slack keeps a third candidate
    runs_out (plainly L2 (halves 1) 2 (wholes (0 ∷ 1 ∷ 0 ∷ 0 ∷ [])) 2)
    -- Q2 the balls in which candidates lose cut a third away
    ∷ finds (plainly L2 (halves 3) 2 (wholes (0 ∷ 2 ∷ 1 ∷ 0 ∷ [])) 2) 0 (7 ∷ 7 ∷ [])
    -- Q3 599 floats are two slots
    ∷ runs_out (within (sevens 2 20 15 599) false L2 (custom 1) 2 gap (4 ∷ []))
    -- Q4 no slot for the birth at t = n
    ∷ runs_out (plainly L2 (custom 1) 2 gap 2)
    -- Q5 a NaN penalty goes on
    ∷ runs_out (plainly L2 Bic 2 (replicate 4 +∞) 2)
    -- Q6 n below twice m: no search, so no slots
    ∷ finds (plainly L2 (custom 1) 3 step 0) 0 (7 ∷ 7 ∷ [])
    -- Q7 twice m would wrap
    ∷ finds (plainly L2 (custom 1) (2 ^ 63) step 0) 0 (7 ∷ 7 ∷ [])
    -- Q8 a penalty of 0: no search, so no slots
    ∷ finds (plainly L2 Bic 2 level 0) 0 (7 ∷ 7 ∷ [])
    -- Q9 two channels, of which the second steps
    ∷ finds (among false L2 (custom 1) 2 (level ++ step) (4 ∷ 4 ∷ []) 3) 1 (2 ∷ 7 ∷ [])
    -- Q10 two channels ask for slots
    ∷ runs_out (among false L2 (custom 1) 2 (gap ++ gap) (4 ∷ 4 ∷ []) 2)
    ∷ []

-- ---- the slack, what is cut, and the range: readings a few billionths beside a tie
unfoldable pub slack_rows : List Row
slack_rows =
    -- Q63 slack of no less than 1e-9
    runs_out (plainly L2 (halves 1) 2 (ten_billionths (0 ∷ 9999999995 ∷ 9999999995 ∷ 0 ∷ [])) 2)
    -- Q64 slack with |F(b)|, |F(a)|, |cost| and the penalty
    ∷ runs_out (plainly L2 (halves 1) 2 (ten_billionths (39999999990 ∷ 30000000015 ∷ 30000000010 ∷ 30000000010 ∷ [])) 2)
    -- Q65 slack with |F(a)| and the penalty
    ∷ runs_out (plainly L2 (custom 3) 2 (ten_billionths (0 ∷ 9999999995 ∷ 19999999970 ∷ 19999999970 ∷ [])) 2)
    -- Q66 slack of no more than 1e-9, over the length
    ∷ finds (plainly L2 (custom 2) 2 (ten_billionths (15 ∷ []) ++ (ratio 10000000020000002 (10 ^ 16) ∷ ten_billionths (14999999995 ∷ 10000000010 ∷ []))) 2) 0 (7 ∷ 7 ∷ [])
    -- Q67 slack over the length, and one slot
    ∷ finds (plainly L2 (custom 12) 2 (ten_billionths (0 ∷ 0 ∷ 10 ∷ 19999999955 ∷ [])) 1) 0 (7 ∷ 7 ∷ [])
    -- Q68 an end that lies where the ball ends is cut, and the high end also where the low one was
    ∷ finds (plainly L2 (halves 1) 2 (ten_billionths (10 ∷ 0 ∷ 5000000000 ∷ 0 ∷ [])) 1) 0 (7 ∷ 7 ∷ [])
    -- Q69 the penalty counts once in the slack of two channels, each of which has its own range
    ∷ finds (among false L2 (custom 2) 2 (ten_billionths (10000000000 ∷ 9999999985 ∷ 0 ∷ 65000000025 ∷ 25000000005 ∷ 25000000000 ∷ 15000000015 ∷ 35000000035 ∷ [])) (4 ∷ 4 ∷ []) 2) 1 (2 ∷ 7 ∷ [])
    ∷ []

-- ---- readings and penalties at which one rounding decides
unfoldable pub rounding_rows : List Row
rounding_rows =
    -- Q76 F(b) less F(a), and then the cost; an outer ball with slack; the farther end; what the other channel is far is taken off
    runs_out (among false L2 Bic 2 (wholes (5 ∷ 3 ∷ 3 ∷ 1 ∷ 4 ∷ []) ++ (ratio 2942220647384096 (10 ^ 15) ∷ wholes (3 ∷ 5 ∷ []))) (4 ∷ 4 ∷ []) 2)
    -- Q77 a ball of one point, and one that only touches the box, leave something; slack with the magnitude of F(b); the most slots of all steps
    ∷ runs_out (plainly L2 (Custom (ratio 5 (10 ^ 324))) 2 (wholes (0 ∷ 0 ∷ 0 ∷ 1 ∷ 1 ∷ [])) 2)
    -- Q78 the order of the balls; dominated along the second channel
    ∷ finds (among false L2 Bic 2 (wholes (0 ∷ 0 ∷ 1 ∷ 0 ∷ []) ++ (ratio 10257686629144716 (10 ^ 16) ∷ ratio 1 2 ∷ wholes (0 ∷ 1 ∷ []))) (4 ∷ 4 ∷ []) 2) 0 (7 ∷ 7 ∷ [])
    ∷ []

unfoldable pub further_rounding_rows : List Row
further_rounding_rows =
    -- Q79 the gap to the high end; the gap of the other channel is taken off; F(tau) and the cost, and then the penalty
    finds (among false L2 Bic 2 (ratio 912018162272217 (10 ^ 15) ∷ wholes (1 ∷ 2 ∷ 1 ∷ 3 ∷ 4 ∷ 0 ∷ 4 ∷ 1 ∷ 0 ∷ [])) (5 ∷ 5 ∷ []) 2) 0 (7 ∷ 7 ∷ [])
    -- Q80 gap and slack are divided each; length·mean·mean and not sum·mean
    ∷ finds (plainly L2 (Custom (ratio 5333333349333333 (10 ^ 15))) 2 (wholes (0 ∷ 2 ∷ 2 ∷ 0 ∷ 0 ∷ [])) 1) 0 (7 ∷ 7 ∷ [])
    -- Q81 infinite squares: a radius that is no number leaves the centre; sums from index 0 up
    ∷ finds (plainly L2 Bic 2 (ratio (2 * 10 ^ 160) 1 ∷ ratio (10 ^ 160) 1 ∷ +0 ∷ +0 ∷ ratio (3121748550315992 * 10 ^ 129) 1 ∷ []) 2) 0 (7 ∷ 7 ∷ [])
    -- Q87 the slack's terms are multiplied by 1e-9 and then divided
    ∷ finds (plainly L2 (Custom (ratio 2 (10 ^ 8))) 2 (of_whole 1 ∷ neg (of_whole 1) ∷ +0 ∷ ratio 9275983165478489 (10 ^ 21) ∷ neg (ratio 9275983165478489 (10 ^ 21)) ∷ []) 2) 0 (7 ∷ 7 ∷ [])
    ∷ []

-- ---- the inequality search, which asks for no slots
unfoldable pub inequality_rows : List Row
inequality_rows =
    -- Q11 Normal finds the step too
    finds (plainly Normal (custom 1) 2 step 0) 1 (2 ∷ 7 ∷ [])
    -- Q12 with a tiny penalty the winner is dropped too, and F(3) is infinite
    ∷ finds (plainly Normal (Custom (ratio 1 (10 ^ 300))) 2 (replicate 4 +0) 0) 1 (2 ∷ 7 ∷ [])
    -- Q13 F(0) is minus the penalty
    ∷ finds (plainly Normal (custom 12) 2 (wholes (1 ∷ 0 ∷ 0 ∷ 0 ∷ 1 ∷ [])) 0) 1 (3 ∷ 7 ∷ [])
    -- Q14 length·mean·mean, from left to right
    ∷ finds (plainly Normal (custom 1) 2 (wholes (0 ∷ 0 ∷ 0 ∷ 3 ∷ 0 ∷ [])) 0) 1 (2 ∷ 7 ∷ [])
    -- Q15 BIC for Normal: 2·ln(n), once for each channel; the ln of the smallest normal number
    ∷ finds (among false Normal Bic 2 (level ++ wholes (2 ∷ 1 ∷ 1 ∷ 0 ∷ [])) (4 ∷ 4 ∷ []) 0) 0 (7 ∷ 7 ∷ [])
    -- Q16 two cuts, the lowest first
    ∷ finds (among false L2 (custom 1) 2 (replicate 12 +0 ++ wholes (0 ∷ 0 ∷ 6 ∷ 6 ∷ 0 ∷ 0 ∷ [])) (6 ∷ 6 ∷ 6 ∷ []) 0) 2 (2 ∷ 4 ∷ 7 ∷ [])
    -- Q17 a custom penalty counts once for each channel
    ∷ finds (among false L2 (custom 1) 2 (level ++ wholes (0 ∷ 0 ∷ 1 ∷ 1 ∷ 0 ∷ 0 ∷ 1 ∷ 1 ∷ [])) (4 ∷ 4 ∷ 4 ∷ []) 0) 0 (7 ∷ 7 ∷ [])
    -- Q82 the bound is F(t) and the penalty; candidates stay in their order; a variance below 0 by rounding
    ∷ finds (plainly Normal Bic 2 (replicate 6 (of_whole 1) ++ (ratio (1046485621772205 * 10 ^ 139) 1 ∷ +0 ∷ [])) 0) 2 (2 ∷ 6 ∷ 7 ∷ 7 ∷ [])
    -- Q83 channel costs in channel order; the smallest normal number and not the smallest
    ∷ finds (among false Normal (Custom (ratio 45 100)) 2 (wholes (1 ∷ 0 ∷ 0 ∷ 1 ∷ []) ++ (ratio 3788557476797047 (10 ^ 16) ∷ wholes (1 ∷ 1 ∷ 1 ∷ 1 ∷ 1 ∷ 1 ∷ 0 ∷ 1 ∷ 0 ∷ 1 ∷ []))) (5 ∷ 5 ∷ 5 ∷ []) 0) 1 (3 ∷ 7 ∷ [])
    -- Q84 a part below F(t) and the penalty, and not a total below F(t) and two penalties
    ∷ finds (plainly Normal (Custom (ratio 444089209850063 (10 ^ 30))) 2 (+0 ∷ ratio 1 2 ∷ of_whole 1 ∷ +0 ∷ of_whole 1 ∷ []) 0) 1 (3 ∷ 7 ∷ [])
    ∷ []

-- ---- the noise of BIC
unfoldable pub noise_rows : List Row
noise_rows =
    -- Q18 the differences in order, the middle one of three, its floor, the last channel's too
    finds (among false L2 Bic 2 (replicate 8 +0 ++ step) (4 ∷ 4 ∷ 4 ∷ []) 0) 1 (2 ∷ 7 ∷ [])
    -- Q19 the middle one of three, squared
    ∷ finds (among false L2 Bic 2 (replicate 8 +0 ++ wholes (1 ∷ 3 ∷ 0 ∷ 0 ∷ [])) (4 ∷ 4 ∷ 4 ∷ []) 0) 0 (7 ∷ 7 ∷ [])
    -- Q20 of four not the upper middle one alone; the root of 2; F(0) is minus the penalty: what is left of a tie
    ∷ finds (plainly L2 Bic 2 (wholes (5 ∷ 3 ∷ 2 ∷ 0 ∷ 0 ∷ [])) 3) 1 (2 ∷ 7 ∷ [])
    -- Q21 of four not the lower middle one alone
    ∷ finds (among false L2 Bic 2 (replicate 10 +0 ++ wholes (0 ∷ 5 ∷ 0 ∷ 0 ∷ 0 ∷ [])) (5 ∷ 5 ∷ 5 ∷ []) 0) 0 (7 ∷ 7 ∷ [])
    -- Q22 NaN differences last: of 0, 1e-158, 1e-158, NaN, NaN the middle one makes a penalty above 0, and there are no slots
    ∷ runs_out (plainly L2 Bic 2 (+0 ∷ +0 ∷ ratio 1 (10 ^ 158) ∷ +0 ∷ nan ∷ +0 ∷ []) 0)
    ∷ []

-- ---- the penalty of BIC
unfoldable pub penalty_rows : List Row
penalty_rows =
    -- Q72 NaN differences last, also where they come first
    runs_out (plainly L2 Bic 2 (+0 ∷ nan ∷ +0 ∷ ratio 1 (10 ^ 158) ∷ +0 ∷ +0 ∷ []) 0)
    -- Q73 one division, by 0.6745 times the root of 2; three variances, added in the channels' order
    ∷ resolves (among false L2 Bic 2 (wholes (0 ∷ 1 ∷ 2 ∷ 3 ∷ 0 ∷ 5 ∷ 10 ∷ 15 ∷ 0 ∷ 13 ∷ 26 ∷ 39 ∷ [])) (4 ∷ 4 ∷ 4 ∷ []) 0) (of_pattern 0x407291876c070d3b)
    -- Q74 a floor of 1e-6, by the range of readings below 0
    ∷ resolves (plainly L2 Bic 2 (neg (of_whole 8) ∷ neg (of_whole 8) ∷ neg (of_whole 8) ∷ neg (of_whole 16) ∷ []) 0) (of_pattern 0x3dd8635094a5800a)
    -- Q75 two readings have noise
    ∷ resolves (plainly L2 Bic 2 (wholes (0 ∷ 1 ∷ [])) 0) (of_pattern 0x3fe86087c645a5b8)
    ∷ []

-- ---- channels and refusals before 9
unfoldable pub refusal_rows : List Row
refusal_rows =
    -- Q23 no channels at all
    finds (among true L2 Bic 2 [] [] 0) 0 []
    -- Q24 eight channels, without readings
    ∷ finds (among true L2 Bic 2 [] (replicate 8 0) 0) 0 []
    -- Q25 an infinite penalty
    ∷ refuses (plainly L2 (Custom +∞) 2 step 2) (plain 1)
    -- Q26 one that is no number
    ∷ refuses (plainly L2 (Custom nan) 2 step 2) (plain 1)
    -- Q27 one below 0
    ∷ refuses (plainly L2 (Custom (neg (of_whole 1))) 2 step 2) (plain 1)
    -- Q28 2 before 3
    ∷ refuses (among false L2 (custom 1) 1 [] (replicate 9 0) 0) (plain 2)
    -- Q29 3 before 4
    ∷ refuses (among false L2 (custom 1) 2 level (replicate 9 0) 0) (plain 3)
    -- Q30 4 before 5
    ∷ refuses (among false L2 (custom 1) 2 level (1 ∷ 2 ∷ []) 0) (plain 4)
    -- Q31 lengths that add up only where their sum wraps
    ∷ refuses (within (sevens 2 40 15 0) false L2 (custom 1) 2 level (4 ∷ (2 ^ 64 - 4) ∷ 4 ∷ [])) (plain 4)
    -- Q32 no lengths for four readings
    ∷ refuses (among false L2 (custom 1) 2 level [] 0) (plain 4)
    -- Q33 5 before 6
    ∷ refuses (within (sevens 0 0 0 0) false L2 (custom 1) (2 ^ 63) too_many (4097 ∷ 0 ∷ [])) (plain 5)
    -- Q34 6 before 7
    ∷ refuses (within (sevens 0 0 0 0) false L2 (custom 1) (2 ^ 63) too_many (4097 ∷ [])) (plain 6)
    -- Q35 4,096 readings are not too many, and ask for room
    ∷ refuses (within (sevens 0 0 0 0) false L2 (custom 1) (2 ^ 63) (replicate 4096 +0) (4096 ∷ [])) (plain 7)
    -- Q36 7 before 8: a cut short
    ∷ refuses (within (sevens 1 20 15 400) true L2 (custom 1) 2 gap (4 ∷ [])) (plain 7)
    -- Q37 7 before 9: a float short
    ∷ refuses (within (sevens 2 19 15 0) false L2 (custom 1) 2 step (4 ∷ [])) (plain 7)
    -- Q38 an index short, also where no search is run
    ∷ refuses (within (sevens 2 20 14 0) false L2 (custom 1) 3 step (4 ∷ [])) (plain 7)
    -- Q39 8 before 9
    ∷ refuses (strictly L2 (custom 1) 2 gap 0) (gap_at 0 1)
    -- Q40 8 also where no search is run
    ∷ refuses (strictly L2 (custom 1) 3 gap 0) (gap_at 0 1)
    -- Q41 an infinity
    ∷ refuses (strictly L2 (custom 1) 2 (of_whole 0 ∷ of_whole 0 ∷ of_whole 4 ∷ -∞ ∷ []) 2) (gap_at 0 3)
    -- Q42 the lowest channel first, then the lowest index
    ∷ refuses (among true L2 (custom 1) 2 (wholes (0 ∷ 0 ∷ 4 ∷ []) ++ (nan ∷ nan ∷ wholes (0 ∷ 4 ∷ 4 ∷ []))) (4 ∷ 4 ∷ []) 3) (gap_at 0 3)
    -- Q43 a gap in the second channel
    ∷ refuses (among true L2 (custom 1) 2 (level ++ gap) (4 ∷ 4 ∷ []) 3) (gap_at 1 1)
    -- Q44 a strict search of finite readings, with more room than is asked for: the rest of the cuts area is as it was, all else is zero
    ∷ finds (within (sevens 4 21 16 401) true L2 (custom 1) 2 step (4 ∷ [])) 1 (2 ∷ 7 ∷ 7 ∷ 7 ∷ [])
    ∷ []

-- ---- charts
unfoldable pub chart_rows : List Row
chart_rows =
    -- Q45 a signal resets nothing
    sums_are sums (wholes (8 ∷ 0 ∷ [])) ((ratio 15 2, +0, Above) ∷ (of_whole 7, +0, Above) ∷ [])
    -- Q46 the lower sum
    ∷ sums_are sums (neg (of_whole 8) ∷ of_whole 8 ∷ []) ((+0, ratio 15 2, Below) ∷ (ratio 15 2, +0, Above) ∷ [])
    -- Q47 infinity less infinity is no number, and the sum 0
    ∷ sums_are (Cusum.new_of +0 (ratio 1 (10 ^ 300))) (ratio (10 ^ 300) 1 ∷ neg (ratio (10 ^ 300) 1) ∷ []) ((+∞, +0, Above) ∷ (+0, +∞, Below) ∷ [])
    -- Q48 a gap is no signal, and its index is used up
    ∷ sums_signal sums (of_whole 8 ∷ nan ∷ of_whole 8 ∷ []) 2 (0 ∷ 2 ∷ 7 ∷ [])
    -- Q49 16 before 6
    ∷ sums_refuse bad_sums too_many 0 (plain 16)
    -- Q50 6 before 7
    ∷ sums_refuse sums too_many 0 (plain 6)
    -- Q51 4,096 readings are not too many, and a record short
    ∷ sums_refuse sums (replicate 4096 +0) 4095 (plain 7)
    -- Q52 the run length by the lower sum
    ∷ hears sums (neg (of_whole 3)) Lower 3
    -- Q53 16 before 8
    ∷ refuses_to_hear bad_sums nan Upper (plain 16)
    -- Q54 a level that is not finite
    ∷ refuses_to_hear sums +∞ Upper (gap_at 0 0)
    -- Q55 a gap is no signal of an EWMA
    ∷ averages_are averages (of_whole 4 ∷ nan ∷ []) ((of_whole 4, neg (of_whole 3), of_whole 3, Above) ∷ (of_whole 4, neg (of_whole 3), of_whole 3, None) ∷ [])
    -- Q56 limits by the place, from 1: with lambda 0.5 and L 4 the first are -2 and 2
    ∷ averages_are (Ewma.with_params +0 (of_whole 1) (ratio 1 2) (of_whole 4) First) (of_whole 1 ∷ []) ((ratio 1 2, neg (of_whole 2), of_whole 2, None) ∷ [])
    -- Q57 the second are beyond 2.125
    ∷ averages_signal (Ewma.with_params +0 (of_whole 1) (ratio 1 2) (of_whole 4) First) (of_whole 0 ∷ ratio 17 4 ∷ []) 0 (7 ∷ 7 ∷ [])
    -- Q58 and below 2.25
    ∷ averages_signal (Ewma.with_params +0 (of_whole 1) (ratio 1 2) (of_whole 4) First) (of_whole 0 ∷ ratio 9 2 ∷ []) 1 (1 ∷ 7 ∷ [])
    -- Q59 lambda 0, and no room
    ∷ averages_refuse (Ewma.with_params +0 (of_whole 1) +0 (of_whole 3) First) (wholes (3 ∷ [])) 0 (plain 17)
    ∷ []

-- ---- settings of charts that are out of range: the first of them is named
unfoldable pub setting_rows : List Row
setting_rows =
    -- Q88 15 before 16, on a series without readings
    sums_refuse (Cusum.with_params nan +0 (ratio 1 2) (of_whole 5)) [] 0 (plain 15)
    -- Q89 16 before 17
    ∷ sums_refuse (Cusum.with_params +0 +∞ (neg (of_whole 1)) (of_whole 5)) (wholes (3 ∷ [])) 1 (plain 16)
    -- Q90 17 before 18
    ∷ sums_refuse (Cusum.with_params +0 (of_whole 1) nan +0) (wholes (3 ∷ [])) 1 (plain 17)
    -- Q91 18 before 6
    ∷ sums_refuse (Cusum.with_params +0 (of_whole 1) (ratio 1 2) +0) too_many 0 (plain 18)
    -- Q92 18 before 8
    ∷ refuses_to_hear (Cusum.with_params +0 (of_whole 1) (ratio 1 2) +∞) nan Upper (plain 18)
    -- Q93 all four, with too many readings and no room
    ∷ sums_refuse no_sums too_many 0 (plain 15)
    -- Q94 all four, with a level that is not finite
    ∷ refuses_to_hear no_sums nan Lower (plain 15)
    -- Q95 a sigma of -0
    ∷ sums_refuse (Cusum.new_of +0 (neg +0)) (wholes (3 ∷ [])) 1 (plain 16)
    -- Q96 a target and a k of -0 are accepted
    ∷ sums_are (Cusum.with_params (neg +0) (of_whole 1) (neg +0) (of_whole 5)) (wholes (8 ∷ [])) ((of_whole 8, +0, Above) ∷ [])
    -- Q97 an h of -0
    ∷ refuses_to_hear (Cusum.with_params +0 (of_whole 1) (ratio 1 2) (neg +0)) (of_whole 3) Upper (plain 18)
    -- Q98 15 before 16 of an EWMA, all four, with too many readings and no room
    ∷ averages_refuse no_averages too_many 0 (plain 15)
    -- Q99 16 before 17 of an EWMA
    ∷ averages_refuse (Ewma.with_params +0 (neg +0) (of_whole 2) (of_whole 3) First) [] 0 (plain 16)
    -- Q100 17 before 18 of an EWMA
    ∷ averages_refuse (Ewma.with_params +0 (of_whole 1) (of_whole 2) +0 First) (wholes (3 ∷ [])) 1 (plain 17)
    -- Q101 18 before 6 of an EWMA
    ∷ averages_refuse (Ewma.with_params +0 (of_whole 1) (of_whole 1) +∞ First) too_many 0 (plain 18)
    -- Q102 a lambda of -0
    ∷ averages_refuse (Ewma.with_params +0 (of_whole 1) (neg +0) (of_whole 3) First) (wholes (3 ∷ [])) 1 (plain 17)
    -- Q103 an L of -0
    ∷ averages_refuse (Ewma.with_params +0 (of_whole 1) (of_whole 1) (neg +0) First) (wholes (3 ∷ [])) 1 (plain 18)
    ∷ []

-- ---- the sides of records
unfoldable pub side_rows : List Row
side_rows =
    -- Q104 both sums above h
    sums_are sums (of_whole 20 ∷ neg (of_whole 10) ∷ []) ((ratio 39 2, +0, Above) ∷ (of_whole 9, ratio 19 2, Both) ∷ [])
    -- Q105 both, and then one
    ∷ sums_are sums (of_whole 20 ∷ neg (of_whole 10) ∷ neg (of_whole 10) ∷ []) ((ratio 39 2, +0, Above) ∷ (of_whole 9, ratio 19 2, Both) ∷ (+0, of_whole 19, Below) ∷ [])
    -- Q106 the upper sum at h, the lower above it
    ∷ sums_are sums (of_whole 16 ∷ neg (of_whole 10) ∷ []) ((ratio 31 2, +0, Above) ∷ (of_whole 5, ratio 19 2, Below) ∷ [])
    -- Q107 the lower sum at h, the upper above it
    ∷ sums_are sums (neg (of_whole 16) ∷ of_whole 10 ∷ []) ((+0, ratio 31 2, Below) ∷ (ratio 19 2, of_whole 5, Above) ∷ [])
    -- Q108 a gap with both sums above h
    ∷ sums_are sums (of_whole 20 ∷ neg (of_whole 10) ∷ nan ∷ []) ((ratio 39 2, +0, Above) ∷ (of_whole 9, ratio 19 2, Both) ∷ (of_whole 9, ratio 19 2, None) ∷ [])
    -- Q109 the level 4 is heard by the upper sum at its second reading, with a large lower sum too
    ∷ sums_are sums (neg (of_whole 100) ∷ wholes (4 ∷ 4 ∷ [])) ((+0, ratio 199 2, Below) ∷ (ratio 7 2, of_whole 95, Below) ∷ (of_whole 7, ratio 181 2, Both) ∷ [])
    -- Q110 and -4 by the lower sum, with a large upper one
    ∷ sums_are sums (of_whole 100 ∷ replicate 2 (neg (of_whole 4))) ((ratio 199 2, +0, Above) ∷ (of_whole 95, ratio 7 2, Above) ∷ (ratio 181 2, of_whole 7, Both) ∷ [])
    -- Q111 every side but none is a signal
    ∷ sums_signal sums (of_whole 20 ∷ neg (of_whole 10) ∷ neg (of_whole 10) ∷ []) 3 (0 ∷ 1 ∷ 2 ∷ [])
    -- Q112 an EWMA below its limits
    ∷ averages_are averages (neg (ratio 7 2) ∷ []) ((neg (ratio 7 2), neg (of_whole 3), of_whole 3, Below) ∷ [])
    -- Q113 and at the lower one
    ∷ averages_are averages (neg (of_whole 3) ∷ []) ((neg (of_whole 3), neg (of_whole 3), of_whole 3, None) ∷ [])
    -- Q114 an infinite L·sigma times a zero width: limits that are no numbers, and no side
    ∷ averages_are (Ewma.with_params +0 (ratio (10 ^ 200) 1) (ratio 1 (2 ^ 60)) (ratio (10 ^ 200) 1) First) (of_whole 1 ∷ []) ((ratio 1 (2 ^ 60), nan, nan, None) ∷ [])
    -- Q115 an EWMA signals on both sides
    ∷ averages_signal averages (neg (ratio 7 2) ∷ of_whole 3 ∷ ratio 7 2 ∷ []) 2 (0 ∷ 2 ∷ 7 ∷ [])
    -- Q116 none again, once the sums are down
    ∷ sums_are sums (of_whole 8 ∷ neg (of_whole 4) ∷ []) ((ratio 15 2, +0, Above) ∷ (of_whole 3, ratio 7 2, None) ∷ [])
    -- Q117 a statistic that falls is still above
    ∷ averages_are averages (of_whole 4 ∷ ratio 7 2 ∷ []) ((of_whole 4, neg (of_whole 3), of_whole 3, Above) ∷ (ratio 7 2, neg (of_whole 3), of_whole 3, Above) ∷ [])
    -- Q118 the side is by the limits about the target
    ∷ averages_are (Ewma.with_params (of_whole 10) (of_whole 1) (of_whole 1) (of_whole 3) First) (wholes (12 ∷ [])) ((of_whole 12, of_whole 7, of_whole 13, None) ∷ [])
    ∷ []

-- ---- the editions of an EWMA: which place a reading has
unfoldable pub edition_rows : List Row
edition_rows =
    -- Q119 a gap first has place 0 in the second edition, and the reading after it place 1
    averages_are (halving Second) (nan ∷ of_whole 1 ∷ []) ((+0, +0, +0, None) ∷ (ratio 1 2, neg (of_whole 2), of_whole 2, None) ∷ [])
    -- Q120 it has place 1 in the first
    ∷ averages_are (halving First) (nan ∷ []) ((+0, neg (of_whole 2), of_whole 2, None) ∷ [])
    -- Q121 a gap in the middle repeats the limits
    ∷ averages_are (halving Second) (of_whole 1 ∷ nan ∷ []) ((ratio 1 2, neg (of_whole 2), of_whole 2, None) ∷ (ratio 1 2, neg (of_whole 2), of_whole 2, None) ∷ [])
    -- Q122 all gaps
    ∷ averages_are (halving Second) (nan ∷ -∞ ∷ []) ((+0, +0, +0, None) ∷ (+0, +0, +0, None) ∷ [])
    -- Q123 a target of -0: limits are computed
    ∷ averages_are (Ewma.with_params (neg +0) (of_whole 1) (ratio 1 2) (of_whole 4) Second) (nan ∷ []) ((neg +0, neg +0, +0, None) ∷ [])
    -- Q124 an infinite L·sigma times the zero width of place 0
    ∷ averages_are unbounded (nan ∷ []) ((+0, nan, nan, None) ∷ [])
    -- Q125 and times the width of place 1
    ∷ averages_are unbounded (nan ∷ of_whole 1 ∷ []) ((+0, nan, nan, None) ∷ (of_whole 1, -∞, +∞, None) ∷ [])
    -- Q126 a signal that only the second edition has: 2.27 at place 2
    ∷ averages_signal (halving Second) (of_whole 0 ∷ nan ∷ ratio 227 50 ∷ []) 1 (2 ∷ 7 ∷ 7 ∷ [])
    -- Q127 and at place 3 of the first
    ∷ averages_signal (halving First) (of_whole 0 ∷ nan ∷ ratio 227 50 ∷ []) 0 (7 ∷ 7 ∷ 7 ∷ [])
    -- Q128 a chart by `new` has the edition that it is given
    ∷ averages_are (Ewma.new_of +0 (of_whole 1) Second) (nan ∷ []) ((+0, +0, +0, None) ∷ [])
    -- Q129 be it the first
    ∷ averages_are (Ewma.new_of +0 (of_whole 1) First) (nan ∷ []) ((+0, neg (of_pattern 0x3fe3333333333332), of_pattern 0x3fe3333333333332, None) ∷ [])
    -- Q130 the side is by the limits of the place: 2.125 is beyond those of place 1
    ∷ averages_are (halving Second) (nan ∷ ratio 17 4 ∷ []) ((+0, +0, +0, None) ∷ (ratio 17 8, neg (of_whole 2), of_whole 2, Above) ∷ [])
    -- Q131 the settings are tested in the second edition too
    ∷ averages_refuse (Ewma.with_params +0 (of_whole 1) +0 (of_whole 3) Second) (nan ∷ []) 0 (plain 17)
    -- Q132 and more readings than are taken are refused
    ∷ averages_refuse (halving Second) too_many 0 (plain 6)
    -- Q133 a gap after a signal is none, and what follows it has place 2
    ∷ averages_signal (halving Second) (of_whole 8 ∷ nan ∷ ratio 1 4 ∷ []) 1 (0 ∷ 7 ∷ 7 ∷ [])
    ∷ []

-- ---- the balls of a candidate, of which it keeps 64

-- two of them are the narrowest, at places 1 and 2, and one is as wide as none; each is about the number of its place
abbrev full : List Ball
full = ball 0 nan ∷ ball 1 (of_whole 1) ∷ ball 2 (of_whole 1) ∷ balls_from 3 61

unfoldable pub ball_rows : List Row
ball_rows =
    -- Q60 the last ball moves into the place of the earliest narrowest one, and the 65th goes last
    keeps (ball 64 (of_whole 2)) full (ball 0 nan ∷ ball 63 (of_whole 63) ∷ ball 2 (of_whole 1) ∷ (balls_from 3 60 ++ (ball 64 (of_whole 2) ∷ [])))
    -- Q61 a 65th as narrow as that is turned away
    ∷ keeps (ball 64 (of_whole 1)) full full
    -- Q62 one whose radius is no number enters, and such a one is not the narrowest
    ∷ keeps (ball 64 nan) full (ball 0 nan ∷ ball 63 (of_whole 63) ∷ ball 2 (of_whole 1) ∷ (balls_from 3 60 ++ (ball 64 nan ∷ [])))
    -- Q70 an empty ball is not kept
    ∷ keeps (ball 0 +0) [] []
    -- Q71 one that is no number is
    ∷ keeps (ball 0 nan) [] (ball 0 nan ∷ [])
    -- Q85 a 64th is kept, whatever its radius
    ∷ keeps (ball 64 (of_whole 1)) (balls_from 1 63) (balls_from 1 63 ++ (ball 64 (of_whole 1) ∷ []))
    -- Q86 the last ball is the narrowest
    ∷ keeps (ball 65 (of_whole 2)) (balls_from 2 63 ++ (ball 1 (of_whole 1) ∷ [])) (balls_from 2 63 ++ (ball 65 (of_whole 2) ∷ []))
    ∷ []

-- ---- the logarithm, whose last step has ln 2 in two parts
unfoldable pub logarithm_rows : List Row
logarithm_rows =
    -- Q134 of 3: not with ln 2 in one part, nor with a low part that the rounded ln 2 leaves
    logarithm_is 0x4008000000000000 0x3ff193ea7aad030b
    -- Q135 of 2 ^ -1000
    ∷ logarithm_is 0x0170000000000000 0xc085a92d6d005c94
    -- Q136 of 2 ^ 33
    ∷ logarithm_is 0x4200000000000000 0x4036dfb516f20bbf
    -- Q137 of 10: the high part's product is added last
    ∷ logarithm_is 0x4024000000000000 0x40026bb1bbb55516
    -- Q138 next to a tie: the low part is no unit more
    ∷ logarithm_is 0x405000000736f9be 0x4010a2b2410969e2
    -- Q139 and no unit less
    ∷ logarithm_is 0x41a000000a4e9f3e 0x4032b70887c80ad6
    -- Q140 next to a power of two: 21 bits of the high part are cleared, and not 22
    ∷ logarithm_is 0x40048b5e3c2dab12 0x3fee2e42fedffff7
    -- Q141 and not 20
    ∷ logarithm_is 0x40048b5e3c37f0c1 0x3fee2e42feeffff6
    -- Q142 cuts that turn on it: with ln 2 in one part they are at 3 and 5
    ∷ finds (plainly Normal Bic 2 (wholes (2 ∷ 3 ∷ 4 ∷ 5 ∷ 6 ∷ 7 ∷ 8 ∷ [])) 0) 2 (2 ∷ 4 ∷ 7 ∷ [])
    ∷ []

unfoldable pub further_rows : List Row
further_rows =
    functional_rows ++ (inequality_rows ++ (noise_rows ++ (refusal_rows ++ (chart_rows ++ (setting_rows ++ (side_rows ++ (edition_rows ++ (ball_rows ++ (slack_rows ++ (penalty_rows ++ (rounding_rows ++ (further_rounding_rows ++ logarithm_rows))))))))))))
