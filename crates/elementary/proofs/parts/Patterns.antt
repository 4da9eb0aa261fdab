-- What code that has compared a value knows of its bit pattern. Assumes nothing.
use Rattle.std.proofs.Common.{◌≡◌, ℕ, ◌*◌, ◌%◌, ◌^◌, ◌<◌, ◌≤◌, true, false, not, T, refl, sym, ap, ◌∙◌, subst, inl, inr, lt_irrefl, mod-eq_of_lt, not-le_of_lt, arith, le-ltb}
use mathlib.Core.Bool.{false≢true}
use lib.Ieee.{Float, nan, inf, fin, binary64, to_bits, nan_bits, fits, lt, is_nan}
use lib.Ieee.Bits.{nan_bits_above}
use Rattle.floats.specs.Numbers.{+0}
use Rattle.floats.proofs.Order.Zero.{above_zero}
use Rattle.elementary.proofs.parts.Values.{Pattern, pattern_of}

-- a value that compares below or above another is no NaN
pub less_is_no_nan : (x y : Float) → lt x y ≡ true → T (not (is_nan x))
unfolding lt is_nan
less_is_no_nan nan y h = absurd (false≢true h)
less_is_no_nan (inf s) y h = tt
less_is_no_nan (fin s m e) y h = tt

pub more_is_no_nan : (x y : Float) → lt x y ≡ true → T (not (is_nan y))
unfolding lt is_nan
more_is_no_nan nan nan h = absurd (false≢true h)
more_is_no_nan (inf s) nan h = absurd (false≢true h)
more_is_no_nan (fin s m e) nan h = absurd (false≢true h)
more_is_no_nan x (inf s) h = tt
more_is_no_nan x (fin s m e) h = tt

-- a pattern below the infinity's is no NaN's
pub low_pattern : (n : ℕ) → n < 2047 * 2 ^ 52 → T (not (nan_bits binary64 n))
low_pattern n h =
    let m : n % 2 ^ 63 ≡ n = mod-eq_of_lt (omega arith) in
    rw (nan_bits_above binary64 n, le-ltb (2047 * 2 ^ 52) (n % 2 ^ 63) (omega (arith, m))) tt

infinite_bits : to_bits binary64 (inf false) ≡ 2047 * 2 ^ 52
unfolding to_bits
infinite_bits = refl

-- a value `x` above zero, by whether its pattern is below the infinity's
module _ (x : Float) (f : T (fits binary64 x)) (above : lt +0 x ≡ true) where
  pub pattern_below : to_bits binary64 x < 2047 * 2 ^ 52 → Pattern x (to_bits binary64 x)
  pattern_below h = elim (above_zero x above) [
    | inl p ↦ pattern_of x f p
    | inr e ↦ absurd (lt_irrefl (2047 * 2 ^ 52) (subst (λ (z : ℕ). z < 2047 * 2 ^ 52) (ap (to_bits binary64) e ∙ infinite_bits) h))
  ]

  pub pattern_infinite : 2047 * 2 ^ 52 ≤ to_bits binary64 x → x ≡ inf false
  pattern_infinite h = elim (above_zero x above) [
    | inl p ↦ absurd (not-le_of_lt (pattern_of x f p).under h)
    | inr e ↦ e
  ]

-- the same of an argument of a function, which the format holds
module _ (x : Float) (e : fits binary64 x ≡ true) (above : lt +0 x ≡ true) where
  pub argument_below : to_bits binary64 x < 2047 * 2 ^ 52 → Pattern x (to_bits binary64 x)
  argument_below = pattern_below x (subst T (sym e) tt) above

  pub argument_infinite : 2047 * 2 ^ 52 ≤ to_bits binary64 x → x ≡ inf false
  argument_infinite = pattern_infinite x (subst T (sym e) tt) above
