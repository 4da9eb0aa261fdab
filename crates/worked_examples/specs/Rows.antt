-- How the tables write a call and what it is to come to. Every place that is lent holds 7. Definitions only.
use Rattle.std.specs.Prelude.{ℕ, zero, suc, ◌+◌, ◌*◌, ◌^◌, ◌≡◌, Bool, true, false, List, [], ◌∷◌, ◌++◌, map, length, replicate, Float}
use Rattle.std.specs.Float.{binary64}
use Rattle.std.specs.Float.Ieee.{of_bits}
use Rattle.floats.specs.Numbers.{+0, of_whole, ratio}
use Rattle.refusals.specs.Stated.{Stated, plain}
use Rattle.refusals.specs.Said.{answered, refused}
use Rattle.readings.specs.Shape.{first_length}
use Rattle.costs.specs.declared.CostFunction.{CostFunction}
use Rattle.costs.specs.declared.Penalty.{Penalty}
use Rattle.costs.specs.declared.Penalty.TheVariants.{Custom}
use Rattle.charts.specs.declared.Side.{Side}
use Rattle.charts.specs.declared.Side.TheVariants.{Both}
use Rattle.charts.specs.declared.Sum.{Sum}
use Rattle.cusum.specs.declared.Cusum.{Cusum}
use Rattle.cusum.specs.declared.CusumResult.{CusumResult}
use Rattle.ewma.specs.declared.Ewma.{Ewma}
use Rattle.ewma.specs.declared.EwmaResult.{EwmaResult}
use Rattle.candidate.specs.Boxes.{ball_of}
use Rattle.candidate_balls.specs.declared.Ball.{Ball}
use Rattle.pelt.specs.Detected.{with_min_segment_len}
use Rattle.search_rules.specs.Limits.{slot_floats}
use Rattle.search_rules.specs.Room.{cuts_for, floats_for, indices_for}
use Rattle.search_answer.specs.Outcome.{Areas}
use Rattle.worked_examples.specs.Calls.{Search, Call, search, resolve, cusum, cusum_points, run_length, ewma, ewma_points, lose, logarithm, Outcome, searched, resolved, sums, averages, points, heard, losing, valued, outcome}

-- a call, and what it is to come to
pub record Row : Type 0 where
  pub call : Call
  pub expected : Outcome

-- every row's call comes to what is expected
abbrev pub Hold : List Row → Type 0
Hold rows = map (λ (r : Row). outcome r.call) rows ≡ map (λ (r : Row). r.expected) rows

-- whole numbers as readings
abbrev pub wholes : List ℕ → List Float
wholes = map (λ n. of_whole n)

-- numbers of ten-billionths as readings: decimals with ten digits behind the point
abbrev pub ten_billionths : List ℕ → List Float
ten_billionths = map (λ n. ratio n (10 ^ 10))

-- the value of a bit pattern
abbrev pub of_pattern : ℕ → Float
of_pattern n = of_bits binary64 n

-- ---- searches

-- the custom penalty `n`, and `n` halves
abbrev pub custom : ℕ → Penalty
custom n = Custom (of_whole n)

abbrev pub halves : ℕ → Penalty
halves n = Custom (ratio n 2)

-- areas of `cuts` cuts, `floats` floats, `indices` indices and `pool` floats of the pool, with 7 everywhere
abbrev pub sevens : ℕ → ℕ → ℕ → ℕ → Areas
sevens cuts floats indices pool = record { cuts = replicate cuts 7; floats = replicate floats (of_whole 7); indices = replicate indices 7; pool = replicate pool (of_whole 7) }

-- exactly the room that `k` channels of `n` readings ask for, and `slots` slots
abbrev pub room_for : ℕ → ℕ → ℕ → Areas
room_for n k slots = sevens (cuts_for n) (floats_for n k) (indices_for n) (slot_floats * slots)

-- with areas of its own: strict or not, cost, penalty, m, run, lengths
abbrev pub within : Areas → Bool → CostFunction → Penalty → ℕ → List Float → List ℕ → Search
within areas strict cost penalty m run lengths = record { strict = strict; settings = with_min_segment_len cost penalty m; run = run; lengths = lengths; areas = areas }

-- with exactly the room that the lengths ask for: the same, and the slots
abbrev pub among : Bool → CostFunction → Penalty → ℕ → List Float → List ℕ → ℕ → Search
among strict cost penalty m run lengths slots = within (room_for (first_length lengths) (length lengths) slots) strict cost penalty m run lengths

-- one channel: cost, penalty, m, readings, slots
abbrev pub plainly : CostFunction → Penalty → ℕ → List Float → ℕ → Search
plainly cost penalty m run slots = among false cost penalty m run (length run ∷ []) slots

abbrev pub strictly : CostFunction → Penalty → ℕ → List Float → ℕ → Search
strictly cost penalty m run slots = among true cost penalty m run (length run ∷ []) slots

-- zeros in all areas but that of the cuts
abbrev pub cleared : Areas → List ℕ → Areas
cleared before cuts =
    record { cuts = cuts; floats = replicate (length before.floats) +0; indices = replicate (length before.indices) 0; pool = replicate (length before.pool) +0 }

-- the search finds `count` cuts, and the cuts area holds `cuts` then
abbrev pub finds : Search → ℕ → List ℕ → Row
finds s count cuts = record { call = search s; expected = searched (answered (count ∷ [])) (cleared s.areas cuts) }

-- refusal 9: the cuts area is as it was
abbrev pub runs_out : Search → Row
runs_out s = record { call = search s; expected = searched (refused (plain 9)) (cleared s.areas s.areas.cuts) }

-- a refusal before 9: all areas are as they were
abbrev pub refuses : Search → Stated → Row
refuses s reason = record { call = search s; expected = searched (refused reason) s.areas }

-- its penalty
abbrev pub resolves : Search → Float → Row
resolves s penalty = record { call = resolve s; expected = resolved penalty }

-- refusal 8, with `channel` and `index`
abbrev pub gap_at : ℕ → ℕ → Stated
gap_at channel index = record { number = 8; values = channel ∷ index ∷ [] }

-- ---- charts

-- what their slices hold
abbrev pub lent_sums : CusumResult
lent_sums = record { s_upper = of_whole 7; s_lower = of_whole 7; side = Both; index = record { 0 = 7 } }

abbrev pub lent_average : EwmaResult
lent_average = record { ewma = of_whole 7; ucl = of_whole 7; lcl = of_whole 7; side = Both; index = record { 0 = 7 } }

-- records by the upper sum, the lower sum and the side; the first has the index `i`, the next `i + 1`
unfoldable pub sums_from : ℕ → List (Float × Float × Side) → List CusumResult
sums_from i [] = []
sums_from i ((upper, lower, side) ∷ shown) = record { s_upper = upper; s_lower = lower; side = side; index = record { 0 = i } } ∷ sums_from (suc i) shown

-- by the statistic, the lower limit, the upper limit and the side
unfoldable pub averages_from : ℕ → List (Float × Float × Float × Side) → List EwmaResult
averages_from i [] = []
averages_from i ((statistic, lower, upper, side) ∷ shown) = record { ewma = statistic; ucl = upper; lcl = lower; side = side; index = record { 0 = i } } ∷ averages_from (suc i) shown

-- `analyze` with one record more than it needs, which stays as it was
abbrev pub sums_are : Cusum → List Float → List (Float × Float × Side) → Row
sums_are c xs shown = record { call = cusum c xs (replicate (length xs + 1) lent_sums); expected = sums (answered (length xs ∷ [])) (sums_from 0 shown ++ (lent_sums ∷ [])) }

abbrev pub averages_are : Ewma → List Float → List (Float × Float × Float × Side) → Row
averages_are c xs shown =
    record { call = ewma c xs (replicate (length xs + 1) lent_average); expected = averages (answered (length xs ∷ [])) (averages_from 0 shown ++ (lent_average ∷ [])) }

-- `signal_points` with exactly the room that it needs: it marks `count` readings, and the slice holds `left` then
abbrev pub sums_signal : Cusum → List Float → ℕ → List ℕ → Row
sums_signal c xs count left = record { call = cusum_points c xs (replicate (length xs) 7); expected = points (answered (count ∷ [])) left }

abbrev pub averages_signal : Ewma → List Float → ℕ → List ℕ → Row
averages_signal c xs count left = record { call = ewma_points c xs (replicate (length xs) 7); expected = points (answered (count ∷ [])) left }

-- a refusal of `analyze`, with room for `room` records, which stay as they were
abbrev pub sums_refuse : Cusum → List Float → ℕ → Stated → Row
sums_refuse c xs room reason = record { call = cusum c xs (replicate room lent_sums); expected = sums (refused reason) (replicate room lent_sums) }

abbrev pub averages_refuse : Ewma → List Float → ℕ → Stated → Row
averages_refuse c xs room reason = record { call = ewma c xs (replicate room lent_average); expected = averages (refused reason) (replicate room lent_average) }

-- the first reading at which a level is heard, and a refusal
abbrev pub hears : Cusum → Float → Sum → ℕ → Row
hears c level asked reading = record { call = run_length c level asked; expected = heard (answered (reading ∷ [])) }

abbrev pub refuses_to_hear : Cusum → Float → Sum → Stated → Row
refuses_to_hear c level asked reason = record { call = run_length c level asked; expected = heard (refused reason) }

-- ---- balls

-- a ball about a whole number and ten more, with this square of its radius
abbrev pub ball : ℕ → Float → Ball
ball centre r2 = ball_of (of_whole centre) (of_whole (10 + centre)) r2

-- `count` balls, about `centre` and the numbers after it, each as wide as its number
unfoldable pub balls_from : ℕ → ℕ → List Ball
balls_from centre zero = []
balls_from centre (suc count) = ball centre (of_whole centre) ∷ balls_from (suc centre) count

-- the balls that a candidate keeps once it loses inside one more
abbrev pub keeps : Ball → List Ball → List Ball → Row
keeps b balls kept = record { call = lose b balls; expected = losing kept }

-- ---- logarithms

-- by the bits of the value and of its logarithm
abbrev pub logarithm_is : ℕ → ℕ → Row
logarithm_is x result = record { call = logarithm (of_pattern x); expected = valued (of_pattern result) }
