-- The M and the e of a value: n of the smallest values, as g * 2 ^ p * 2 ^ -2148 with a g of 53 digits, is M * 2 ^ (p - 2096) with M = g * 2 ^ -52, which lies in [1, 2) and is exact (`split_exactly`). Assumes nothing.
use Rattle.std.proofs.Common.{◌≡◌, ℕ, suc, ◌+◌, ◌-◌, ◌*◌, ◌^◌, ◌<◌, ◌≤◌, Bool, true, false, T, ℤ, pos, ◌-ℤ◌, sym, refl, ap, ◌∙◌, ap₂, inl, inr, le_trans, le_of_eq, lt_of_lt_of_le, lt_of_le_of_lt, le_of_lt, mul-le-mul_right, mul_assoc, lt_of_mul-lt-mul_right, mul-lt-mul_of_pos_right, mul_right_comm, le_of_mul-le-mul_right, arith, lit≤, pow_pos, pow-add}
use native.Mathlib.Nat.{eq_of_mul-eq-mul_right}
use lib.Ieee.{Float, nan, inf, fin, binary64, size, units, round, fits, eq, lt}
use lib.Ieee.Fits.{round-fits}
use lib.Ieee.Exact.{HasValue, round_exact}
use lib.Ieee.Scale.{round_same}
use Rattle.floats.specs.Numbers.{+0, -∞, ratio}
use Rattle.elementary.specs.Inner.Parts.{Scaled}
use Rattle.elementary.specs.Logarithm.{ln_scaled, ln}
use Rattle.floats.proofs.Order.Zero.{equal_to_zero, neither}
use Rattle.elementary.proofs.parts.Values.{size_is, written, below, value, unit_fits, same_value}
use Rattle.elementary.proofs.parts.Digits.{scaled_of}
use Rattle.elementary.proofs.logarithm.Exponents.{from_digits}

-- ---- `ln` by cases
pub ln_of_value : (x : Float) (n : ℕ) → HasValue x false n (2 ^ 1074) → 0 < n → ln x ≡ ln_scaled (ratio n (2 ^ (size n - 1))) (pos (size n - 1) -ℤ pos 1074)
unfolding ln
ln_of_value x n h p =
    let w = written x n h p in
    ap ln w.1.1.0 ∙ ap (λ (z : ℕ). ln_scaled (ratio z (2 ^ (size z - 1))) (pos (size z - 1) -ℤ pos 1074)) w.1.1.1

pub ln_infinite : (x : Float) → x ≡ inf false → x ≡ ln x
unfolding ln
ln_infinite x e = e ∙ ap ln (sym e)

pub ln_zero : (x : Float) → eq x +0 ≡ true → -∞ ≡ ln x
unfolding ln
ln_zero x h = let z = equal_to_zero x h in zero_case z.0 z.1.0 ∙ ap ln (sym z.1.1)
  where
    zero_case : (s : Bool) (e : ℤ) → -∞ ≡ ln (fin s 0 e)
    zero_case true e = refl
    zero_case false e = refl

pub ln_negative : (x : Float) → lt +0 x ≡ false → eq x +0 ≡ false → nan ≡ ln x
unfolding ln
ln_negative x h k = elim (neither x h k) [
  | inl e ↦ ap ln (sym e)
  | inr r ↦ elim r [ inl e ↦ ap ln (sym e) | inr f ↦ ap ln (sym f.1.1) ]
]

-- what the definition says of `n`: M = n / 2 ^ d lies in [1, 2), and no rounding changes it
pub record Split (n d : ℕ) : Type 0 where
  pub low : 2 ^ d ≤ n
  pub high : n < 2 ^ suc d
  pub exact : HasValue (ratio n (2 ^ d)) false n (2 ^ d)

-- ---- a number above zero: n * 2 ^ 1074 is g * 2 ^ p, with a g of 53 digits
module _ (n g p : ℕ) (s : Scaled g p) (e : g * 2 ^ p ≡ n * 2 ^ 1074) where
  -- n has d + 1 digits
  abbrev d : ℕ
  d = p - 1022

  spare : n * 2 ^ 52 ≡ g * 2 ^ d
  spare =
      eq_of_mul-eq-mul_right (2 ^ 1022) (pow_pos 1022) (n * 2 ^ 52) (g * 2 ^ d)
      (mul_assoc n (2 ^ 52) (2 ^ 1022)
      ∙ ap (λ (z : ℕ). n * z) (sym (pow-add 2 52 1022))
      ∙ sym e
      ∙ ap (λ (z : ℕ). g * 2 ^ z) (split p s.2)
      ∙ ap (λ (z : ℕ). g * z) (pow-add 2 d 1022)
      ∙ sym (mul_assoc g (2 ^ d) (2 ^ 1022)))
    where
      split : (p : ℕ) → 1022 ≤ p → p ≡ p - 1022 + 1022
      split p h = omega arith

  between : (2 ^ d ≤ n) × (n < 2 ^ suc d)
  between = (
    le_of_mul-le-mul_right (le_trans (le_of_eq (swap (2 ^ d))) (le_trans (mul-le-mul_right (2 ^ d) s.0) (le_of_eq (sym spare)))) (pow_pos 52),
    lt_of_mul-lt-mul_right (2 ^ 52) (lt_of_le_of_lt (le_of_eq spare) (lt_of_lt_of_le (mul-lt-mul_of_pos_right s.1 (pow_pos d)) (le_of_eq (sym (next d))))),
  )
    where
      swap : (z : ℕ) → z * 2 ^ 52 ≡ 2 ^ 52 * z
      swap z = omega arith

      next : (d : ℕ) → 2 ^ suc d * 2 ^ 52 ≡ 2 ^ 53 * 2 ^ d
      next d = sym (pow-add 2 (suc d) 52) ∙ ap (λ (z : ℕ). 2 ^ z) (omega arith) ∙ pow-add 2 53 d

  last : size n - 1 ≡ d
  last = drop_one (size n) d (size_is n d between.0 between.1)
    where
      drop_one : (a d : ℕ) → a ≡ suc d → a - 1 ≡ d
      drop_one a d e = omega arith

  high : g ≤ 2 ^ 53
  high = le_of_lt s.1

  fine : g * 2 ^ 1022 < 2 ^ 2098
  fine = below g 1022 s.0 high (lit≤ tt)

  cross : n * 2 ^ 1074 ≡ g * 2 ^ 1022 * 2 ^ d
  cross = ap (λ (z : ℕ). n * z) (pow-add 2 52 1022) ∙ sym (mul_assoc n (2 ^ 52) (2 ^ 1022)) ∙ ap (λ (z : ℕ). z * 2 ^ 1022) spare ∙ mul_right_comm g (2 ^ d) (2 ^ 1022)

  -- M is g * 2 ^ -52
  significand : round binary64 false n (2 ^ d) ≡ units binary64 false g 1022
  significand =
      round_same binary64 false n (2 ^ d) (g * 2 ^ 1022) (2 ^ 1074) (pow_pos d) (pow_pos 1074) cross
      ∙ same_value (round binary64 false (g * 2 ^ 1022) (2 ^ 1074)) (units binary64 false g 1022) (g * 2 ^ 1022)
      (round-fits binary64 false (g * 2 ^ 1022) (2 ^ 1074)) (unit_fits g 1022 s.0 high (lit≤ tt))
      (round_exact binary64 false (g * 2 ^ 1022) (2 ^ 1074) g 1022 (pow_pos 1074) s.1 fine refl)
      (value g 1022 s.0 high (lit≤ tt))

  pub ln_of_parts : ln_scaled (ratio n (2 ^ (size n - 1))) (pos (size n - 1) -ℤ pos 1074) ≡ ln_scaled (units binary64 false g 1022) (pos p -ℤ pos 2096)
  unfolding ratio
  ln_of_parts =
      ap (λ (z : ℕ). ln_scaled (round binary64 false n (2 ^ z)) (pos z -ℤ pos 1074)) last
      ∙ ap₂ ln_scaled significand (from_digits d ∙ ap (λ (z : ℕ). pos z -ℤ pos 2096) (back p s.2))
    where
      back : (p : ℕ) → 1022 ≤ p → p - 1022 + 1022 ≡ p
      back p h = omega arith

  exactly : Split n d
  unfolding ratio
  exactly = record { low = between.0; high = between.1; exact = round_exact binary64 false n (2 ^ d) g 1022 (pow_pos d) s.1 fine cross }

-- ---- the law: of a value that the format holds, the M of the definition is n / 2 ^ d exactly
pub split_exactly : (x : Float) (n : ℕ) → T (fits binary64 x) → HasValue x false n (2 ^ 1074) → 0 < n → Split n (size n - 1)
split_exactly x n f h p =
    let w = scaled_of x n f h p in
    let e = sym w.1.1.1 in
    rw (last n w.0 w.1.0 w.1.1.0 e) (exactly n w.0 w.1.0 w.1.1.0 e)
