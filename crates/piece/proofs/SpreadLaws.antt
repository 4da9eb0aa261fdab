-- The spread that `summary` answers: there is one exactly of two or more readings; it is at or above 0, and not -0, or NaN; it is NaN exactly where the L2 cost is, and +∞ where that is. Its divisor is the whole number itself. Assumes nothing.
use Rattle.std.specs.Prelude.{Some, None, Ok}
use Rattle.std.proofs.Common.{◌≡◌, ℕ, zero, suc, ◌-◌, ◌<◌, ◌≤◌, Bool, true, false, cond, T, ◌⊎◌, List, sym, refl, ap, ◌∙◌, subst, inl, inr, true≢false, eq-or-lt_of_le, arith}
use lib.Ieee.{Float, nan, inf, fin, binary64, of_int, lt, div}
use lib.Ieee.Back.{round_whole}
use lib.Ieee.Exact.{HasValue}
use lib.Ieee.Fits.{sub-fits}
use lib.Ieee.Positive.{positive, positive_of_value}
use Rattle.floats.specs.Numbers.{◌/ᶠ◌, ◌<ᶠ◌, +0, +∞, of_whole}
use Rattle.floats.proofs.MinusZero.{Plain, minus_zero, plain_zero, plain_add}
use Rattle.floats.proofs.Order.FromZero.{FromZero, Unsigned, unsigned_from_zero, whole_clear, quotient_unsigned}
use Rattle.floats.proofs.Order.Laws.{number}
use Rattle.floats.proofs.Order.Quotients.{div_inf, div_number}
use Rattle.floats.proofs.Order.Rounding.{clear}
use Rattle.floats.proofs.Order.Zero.{some_below}
use Rattle.logic.proofs.Laws.{clash}
use Rattle.refusals.specs.Limits.{max_readings}
use Rattle.sums.specs.Sums.{mean_of}
use Rattle.costs.specs.Costs.{segment_about, segment_of, l2_cost}
use Rattle.costs.proofs.StartLaws.{l2_from_either_zero}
use Rattle.piece.specs.declared.PieceSummary.{PieceSummary}
use Rattle.piece.specs.Spread.{not_below_zero, spread_of}
use Rattle.piece.specs.Piece.{summary_of, summarised_as}
use Rattle.piece.proofs.PieceLaws.{spread_of_few, spread_of_more, Found, found}

-- ---- the cost, or +0 where it is below 0
chosen : (b : Bool) (x : Float) → T (clear x) → Unsigned (cond b +0 x)
chosen true x h = λ _. tt
chosen false x h = λ _. h

kept_unsigned : (cost : Float) → minus_zero cost ≡ false → Unsigned (not_below_zero cost)
unfolding not_below_zero
kept_unsigned nan h = unfold lt in λ n. absurd n
kept_unsigned (inf true) h = unfold lt in λ _. tt
kept_unsigned (inf false) h = chosen (inf false <ᶠ +0) (inf false) tt
kept_unsigned (fin true zero e) h = absurd (true≢false h)
kept_unsigned (fin true (suc m) e) h = rw (some_below true m e) (λ _. tt)
kept_unsigned (fin false m e) h = chosen (fin false m e <ᶠ +0) (fin false m e) tt

-- no cost of a segment is -0
cost_plain : (xs : List Float) (mean : Float) (a b : ℕ) → Plain (l2_cost (segment_about xs mean a b))
unfolding l2_cost
cost_plain xs mean a b = subst Plain (l2_from_either_zero xs mean a b false) (plain_add (l2_cost (segment_about xs mean a b)) plain_zero (sub-fits binary64 _ _))

-- ---- the divisor
-- a whole number that a piece can have is a float exactly
divisor_exact : (n : ℕ) → n ≤ max_readings → HasValue (of_whole n) false n 1
unfolding of_int
divisor_exact n h = round_whole binary64 false n (omega (arith, h))

divisor_positive : (n : ℕ) → 2 ≤ n → n ≤ max_readings → T (positive (of_whole (n - 1)))
divisor_positive n h l = positive_of_value (of_whole (n - 1)) (n - 1) 1 (divisor_exact (n - 1) (omega (arith, l))) (omega (arith, h))

-- ---- what stays
-- what is no NaN
number_kept : (cost : Float) → T (number cost) → T (number (not_below_zero cost))
unfolding not_below_zero
number_kept cost h = go (cost <ᶠ +0)
  where
    go : (b : Bool) → T (number (cond b +0 cost))
    go true = tt
    go false = h

-- a NaN stays, whatever it is divided by, and +∞ where that is above 0
nan_stays : (y : Float) → not_below_zero nan /ᶠ y ≡ nan
nan_stays y = unfold not_below_zero lt div in refl

infinity_stays : (y : Float) → T (positive y) → not_below_zero +∞ /ᶠ y ≡ +∞
unfolding not_below_zero lt
infinity_stays y h = div_inf binary64 false y h

-- ---- what `summary` answered
module _ (xs : List Float) (a b : ℕ) (s : PieceSummary) (answer : Ok s ≡ summarised_as xs a b) where
  abbrev cost : Float
  cost = l2_cost (segment_of xs a b)

  abbrev piece : Found xs a b s
  piece = found xs a b s answer

  size_is : s.length ≡ b - a
  unfolding summary_of
  size_is = ap (λ (p : PieceSummary). p.length) piece.summed

  spread_is : s.spread ≡ spread_of (b - a) cost
  unfolding summary_of
  spread_is = ap (λ (p : PieceSummary). p.spread) piece.summed

  -- one reading has none, and any more have one
  pub summary_one : s.length ≡ 1 → s.spread ≡ None
  summary_one e = spread_is ∙ spread_of_few (b - a) cost (omega (arith, e, size_is))

  pub summary_more : 2 ≤ s.length → s.spread ≡ Some (not_below_zero cost /ᶠ of_whole (s.length - 1))
  summary_more h = spread_is ∙ ap (λ (n : ℕ). spread_of n cost) (sym size_is) ∙ spread_of_more s.length cost h

  sized : (1 ≡ s.length) ⊎ (1 < s.length)
  sized = eq-or-lt_of_le (omega (arith, size_is, piece.start_first))

  -- where there is none, there is one reading
  pub summary_absent : s.spread ≡ None → s.length ≡ 1
  summary_absent e = elim sized [ inl one ↦ sym one | inr h ↦ let more = summary_more h in absurd (clash cc) ]

  -- ---- of a spread `x`
  module _ (x : Float) (is : s.spread ≡ Some x) where
    pub spread_more : 2 ≤ s.length
    spread_more = elim sized [ inl one ↦ let none = summary_one (sym one) in absurd (clash cc) | inr h ↦ h ]

    -- the divisor
    abbrev others : Float
    others = of_whole (s.length - 1)

    value : x ≡ not_below_zero cost /ᶠ others
    value = let e = sym is ∙ summary_more spread_more in cc

    short : s.length ≤ max_readings
    short = omega (arith, size_is, piece.within, piece.short)

    positive_others : T (positive others)
    positive_others = divisor_positive s.length spread_more short

    -- the divisor is the whole number itself
    pub summary_divisor : HasValue (of_whole (s.length - 1)) false (s.length - 1) 1
    summary_divisor = divisor_exact (s.length - 1) (omega (arith, short))

    -- no minus sign, so at or above 0, and not -0; or NaN
    pub summary_unsigned : Unsigned x
    unfolding segment_of
    summary_unsigned = subst Unsigned (sym value) (quotient_unsigned binary64 (not_below_zero cost) others (kept_unsigned cost (cost_plain xs (mean_of xs) a b).other) (whole_clear (s.length - 1)))

    pub summary_from_zero : FromZero x
    summary_from_zero = unsigned_from_zero x summary_unsigned

    -- NaN exactly where the cost is
    pub nan_summary : cost ≡ nan → x ≡ nan
    nan_summary e = value ∙ ap (λ (c : Float). not_below_zero c /ᶠ others) e ∙ nan_stays others

    pub summary_nan : x ≡ nan → cost ≡ nan
    summary_nan e = go cost refl
      where
        never : T (number cost) → ⊥
        never h = subst (λ (v : Float). T (number v)) (sym value ∙ e) (div_number binary64 (not_below_zero cost) others positive_others (number_kept cost h))

        go : (c : Float) → cost ≡ c → cost ≡ nan
        go nan f = f
        go (inf t) f = absurd (never (rw f tt))
        go (fin t m d) f = absurd (never (rw f tt))

    -- +∞ where the cost is
    pub infinite_summary : cost ≡ +∞ → x ≡ +∞
    infinite_summary e = value ∙ ap (λ (c : Float). not_below_zero c /ᶠ others) e ∙ infinity_stays others positive_others
