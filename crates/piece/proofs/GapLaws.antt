-- A gap anywhere in a channel shows in every summary of it: the mean is NaN, and so is the spread, where there is one. Assumes nothing.
use Rattle.std.specs.Prelude.{Some, Ok}
use Rattle.std.proofs.Common.{◌≡◌, ℕ, zero, suc, ◌-◌, ◌<◌, Bool, true, false, not, T, ◌⊎◌, List, length, get_or, ap, ◌∙◌, subst, inl, inr, eq-or-lt_of_le, arith}
use lib.Ieee.{Float, nan, binary64, neg, sub}
use Rattle.floats.specs.Numbers.{◌+ᶠ◌, ◌*ᶠ◌, ◌/ᶠ◌, of_whole}
use Rattle.floats.specs.Finite.{finite}
use Rattle.floats.proofs.Endless.{endless, gap_endless, add_endless, endless_add, endless_against, neg_endless, endless_less, endless_square, clear_endless, endless_quotient}
use Rattle.floats.proofs.Order.FromZero.{whole_clear}
use Rattle.floats.proofs.Order.Rounding.{clear}
use Rattle.sums.specs.Sums.{sum_to, mean_of, centred, centred_to, squares_to}
use Rattle.costs.specs.Costs.{segment_about, segment_of, l2_cost}
use Rattle.costs.specs.declared.Segment.{Segment}
use Rattle.piece.specs.declared.PieceSummary.{PieceSummary}
use Rattle.piece.specs.Piece.{summary_of, summarised_as}
use Rattle.piece.proofs.PieceLaws.{found}
use Rattle.piece.proofs.SpreadLaws.{nan_summary}

-- ---- the channel's mean: with a gap among the readings their sum is an infinity or NaN, and so is their mean
sum_endless : (xs : List Float) (i n : ℕ) → i < n → finite (get_or xs i nan) ≡ false → (s : Bool) × T (endless s (sum_to xs n))
unfolding sum_to
sum_endless xs i zero h gap = absurd (omega (arith, h))
sum_endless xs i (suc n) h gap = go (eq-or-lt_of_le (omega (arith, h))) (λ l. sum_endless xs i n l gap)
  where
    go : (i ≡ n) ⊎ (i < n) → (i < n → (s : Bool) × T (endless s (sum_to xs n))) → (s : Bool) × T (endless s (sum_to xs n +ᶠ get_or xs n nan))
    go (inl e) _ = let g = gap_endless (get_or xs n nan) (subst (λ (k : ℕ). finite (get_or xs k nan) ≡ false) e gap) in (g.0, add_endless binary64 g.0 (sum_to xs n) (get_or xs n nan) g.1)
    go (inr l) before = let g = before l in (g.0, endless_add binary64 g.0 (sum_to xs n) (get_or xs n nan) g.1)

mean_endless : (xs : List Float) (i : ℕ) → i < length xs → finite (get_or xs i nan) ≡ false → (s : Bool) × T (endless s (mean_of xs))
unfolding mean_of
mean_endless xs i h gap = let g = sum_endless xs i (length xs) h gap in (g.0, endless_quotient binary64 g.0 (sum_to xs (length xs)) (of_whole (length xs)) g.1 (whole_clear (length xs)))

-- ---- a segment about such a mean: its sum is NaN or the infinity of the other sign, and that of its squares NaN or +∞
module _ (xs : List Float) (mean : Float) (s : Bool) (h : T (endless s mean)) (a b : ℕ) where
  segment : Segment
  segment = segment_about xs mean a (suc b)

  less_endless : T (endless (not s) (centred xs mean b))
  unfolding centred sub
  less_endless = add_endless binary64 (not s) (get_or xs b nan) (neg mean) (neg_endless s mean h)

  sum_ends : T (endless (not s) segment.sum)
  unfolding segment segment_about centred_to sub
  sum_ends = endless_add binary64 (not s) (centred_to xs mean (suc b)) (neg (centred_to xs mean a)) (add_endless binary64 (not s) (centred_to xs mean b) (centred xs mean b) less_endless)

  squares_end : T (endless false segment.sum_of_squares)
  unfolding segment segment_about squares_to sub
  squares_end = endless_add binary64 false (squares_to xs mean (suc b)) (neg (squares_to xs mean a)) (add_endless binary64 false (squares_to xs mean b) (centred xs mean b *ᶠ centred xs mean b) (endless_square binary64 (not s) (centred xs mean b) (centred xs mean b) less_endless less_endless))

  length_clear : T (clear segment.length)
  unfolding segment segment_about
  length_clear = whole_clear (suc b - a)

  own_mean : T (endless (not s) (segment.sum /ᶠ segment.length))
  own_mean = endless_quotient binary64 (not s) segment.sum segment.length sum_ends length_clear

  cost_nan : l2_cost segment ≡ nan
  unfolding l2_cost
  cost_nan =
      let m = segment.sum /ᶠ segment.length in
      endless_less binary64 false segment.sum_of_squares (segment.length *ᶠ m *ᶠ m) squares_end
      (endless_square binary64 (not s) (segment.length *ᶠ m) m (clear_endless binary64 (not s) segment.length m length_clear own_mean) own_mean)

  mean_nan : segment.sum /ᶠ segment.length +ᶠ mean ≡ nan
  mean_nan = against s h own_mean
    where
      against : (t : Bool) → T (endless t mean) → T (endless (not t) (segment.sum /ᶠ segment.length)) → segment.sum /ᶠ segment.length +ᶠ mean ≡ nan
      against true h k = endless_against binary64 false _ mean k h
      against false h k = endless_against binary64 true _ mean k h

-- ---- what `summary` answered of a channel whose reading `i` is a gap
module _ (xs : List Float) (a b : ℕ) (s : PieceSummary) (answer : Ok s ≡ summarised_as xs a b) (i : ℕ) (within : i < length xs) (gap : finite (get_or xs i nan) ≡ false) where
  both : (b : ℕ) → a < b → (l2_cost (segment_of xs a b) ≡ nan) × ((summary_of xs a b).mean ≡ nan)
  unfolding segment_of summary_of segment
  both zero h = absurd (omega (arith, h))
  both (suc b) h = let g = mean_endless xs i within gap in (cost_nan xs (mean_of xs) g.0 g.1 a b, mean_nan xs (mean_of xs) g.0 g.1 a b)

  -- the mean, and a spread, are NaN
  pub gap_mean : s.mean ≡ nan
  gap_mean = let f = found xs a b s answer in ap (λ (p : PieceSummary). p.mean) f.summed ∙ (both b f.start_first).1

  pub gap_spread : (x : Float) → s.spread ≡ Some x → x ≡ nan
  gap_spread x is = nan_summary xs a b s answer x is (both b (found xs a b s answer).start_first).0
