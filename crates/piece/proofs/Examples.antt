-- Summaries of pieces, by computation: with the mean of the channel left out, a spread divided by the length, one of a single reading, a cost below 0 that is kept or a NaN one that is not, they would differ. Assumes nothing.
use Rattle.std.specs.Prelude.{Some, None, Result, Ok, Err}
use Rattle.std.proofs.Common.{◌≡◌, ℕ, ◌^◌, true, List, [], ◌∷◌, refl}
use lib.Ieee.{Float, binary64, to_bits, nan, neg, add, sub, mul, div, lt, of_int}
use Rattle.floats.specs.Numbers.{◌<ᶠ◌, of_whole, ratio, +0, +∞}
use Rattle.refusals.specs.declared.Refusal.{Refusal}
use Rattle.piece.specs.declared.PieceSummary.{PieceSummary}
use Rattle.sums.specs.Sums.{sum_to, mean_of, centred, centred_to, squares_to}
use Rattle.costs.specs.Costs.{segment_about, segment_of, l2_cost}
use Rattle.piece.specs.Spread.{not_below_zero, spread_of}
use Rattle.piece.specs.Piece.{summary_of, piece_tests, summarised_as, summarised}
use Rattle.refusals.specs.Said.{answered}
use Rattle.refusals.specs.Tried.{tried}

-- the summary, opened: to unfold it is to unfold all that the line names
opened : List Float → ℕ → ℕ → Result PieceSummary Refusal
unfolding summarised_as piece_tests tried summary_of spread_of not_below_zero segment_of segment_about l2_cost mean_of sum_to centred centred_to squares_to ratio add sub mul div lt of_int
opened xs start end = summarised_as xs start end

steps : List Float
steps = of_whole 0 ∷ of_whole 0 ∷ of_whole 4 ∷ of_whole 4 ∷ []

-- two readings of 4: mean 4, spread 0
second_half : summarised_as steps 2 4 ≡ Ok (record { length = 2; mean = of_whole 4; spread = Some +0 })
unfolding opened steps
second_half = refl

-- all four: mean 2, spread 16 / 3, which is 5.333333333333333
whole_channel : summarised_as steps 0 4 ≡ Ok (record { length = 4; mean = of_whole 2; spread = Some (ratio 16 3) })
unfolding opened steps
whole_channel = refl

-- that float by its fraction and by its decimals, in bits
by_decimals : (to_bits binary64 (ratio 16 3) ≡ 0x4015555555555555) × (to_bits binary64 (ratio 5333333333333333 (10 ^ 15)) ≡ 0x4015555555555555)
unfolding to_bits ratio
by_decimals = (refl, refl)

-- 1 and 2 of 1 2 6: mean 1.5, spread 0.5
first_two : summarised_as (of_whole 1 ∷ of_whole 2 ∷ of_whole 6 ∷ []) 0 2 ≡ Ok (record { length = 2; mean = ratio 3 2; spread = Some (ratio 1 2) })
unfolding opened
first_two = refl

-- ---- equal readings whose cost rounding brings below 0: the spread is +0
tenths : List Float
unfolding ratio
tenths = ratio 1 10 ∷ ratio 1 10 ∷ ratio 1 10 ∷ of_whole 1 ∷ []

tenths_cost : l2_cost (segment_of tenths 1 3) <ᶠ +0 ≡ true
unfolding opened tenths
tenths_cost = refl

-- by bits: the mean is 0.09999999999999998
cost_below_zero : summarised (summarised_as tenths 1 3) ≡ answered (2 ∷ 0x3fb9999999999998 ∷ 0 ∷ [])
unfolding opened tenths to_bits
cost_below_zero = refl

rounded_equals : summarised_as (of_whole 1 ∷ of_whole 2 ∷ of_whole 2 ∷ []) 1 3 ≡ Ok (record { length = 2; mean = of_whole 2; spread = Some +0 })
unfolding opened
rounded_equals = refl

-- ---- a gap elsewhere in the channel: the cost is NaN, and so is the spread
gapped : List Float
gapped = of_whole 0 ∷ nan ∷ of_whole 4 ∷ of_whole 4 ∷ []

gap_elsewhere : summarised_as gapped 2 4 ≡ Ok (record { length = 2; mean = nan; spread = Some nan })
unfolding opened gapped
gap_elsewhere = refl

-- ---- one reading has no spread, whatever its cost
one_reading : summarised_as steps 3 4 ≡ Ok (record { length = 1; mean = of_whole 4; spread = None })
unfolding opened steps
one_reading = refl

one_gap : summarised_as gapped 1 2 ≡ Ok (record { length = 1; mean = nan; spread = None })
unfolding opened gapped
one_gap = refl

-- ---- squares that overflow: 1e200 and -1e200
overflow : summarised_as (ratio (10 ^ 200) 1 ∷ neg (ratio (10 ^ 200) 1) ∷ []) 0 2 ≡ Ok (record { length = 2; mean = +0; spread = Some +∞ })
unfolding opened neg
overflow = refl

-- ---- an empty piece and one past the end are refusal 12
empty : summarised_as steps 2 2 ≡ Err Refusal.Piece
unfolding opened steps
empty = refl

past_the_end : summarised_as steps 2 5 ≡ Err Refusal.Piece
unfolding opened steps
past_the_end = refl
