-- A value that is at least the root of a number, from the number's bit pattern alone: half the pattern, which is half the exponent, and a number more. Assumes nothing.
use Rattle.std.proofs.Common.{◌≡◌, ℕ, zero, suc, ◌+◌, ◌-◌, ◌*◌, ◌/◌, ◌%◌, ◌^◌, ◌<◌, ◌≤◌, true, false, not, T, ltb, refl, ap, ◌∙◌, subst, le_trans, le_of_eq, le_refl, lt_of_le_of_lt, add-zero, le_of_lt, add-le-add, mul-le-mul_right, mod-lt, zero-lt-suc, add-mul, mul-le-mul, lt_of_not-le, mul-zero, mul-one, not-le_of_lt, le_of_mul-le-mul_right, arith, pow_pos, lt-ltb}
use native.Mathlib.Nat.{mul-mul-mul_comm}
use native.Mathlib.Decide.{dec_le}
use lib.Ieee.{Float, nan, inf, fin, binary64, up, down, size, units, fits, of_bits, to_bits, nan_bits, lt, le}
use lib.Ieee.Exact.{HasValue}
use lib.Ieee.Scale.{finite}
use Rattle.floats.specs.Numbers.{+0}
use Rattle.floats.proofs.Order.Fractions.{leq→le}
use Rattle.floats.proofs.Order.Patterns as floats
use Rattle.elementary.specs.Root.{sqrt}
use Rattle.elementary.specs.Inner.Parts.{count_of}
use Rattle.elementary.proofs.parts.Values.{Pattern, count_high, placed_is, value, unit_fits}
use Rattle.elementary.proofs.parts.Shifts.{sig, exp, high_scaled, high_root}
use Rattle.elementary.proofs.parts.Patterns.{pattern_below, low_pattern}
use Rattle.elementary.proofs.root.Digits.{square_sum}
use Rattle.elementary.proofs.root.Scaled.{taken, same}
use Rattle.elementary.proofs.root.Closest.{Correct, correctly_rounded}
-- a value that compares above another is no NaN
pub use Rattle.elementary.proofs.parts.Patterns.{more_is_no_nan}

-- ---- whole numbers

-- twice a product is at most the sum of the squares
products : (d h : ℕ) → 2 * ((d + h) * h) ≤ (d + h) * (d + h) + h * h
products d h = omega (arith, square_sum d h, add-mul d h h)

-- of a significand 2 ^ 52 + t: with an h of at least half of t instead of t, the square is at least 2 ^ 52 times it, and with 2 ^ 51 more at least 2 ^ 53 times it
plain : (t h : ℕ) → t ≤ 2 * h → (t + 2 ^ 52) * 2 ^ 52 ≤ (2 ^ 52 + h) * (2 ^ 52 + h)
plain t h l = omega (arith, square_sum (2 ^ 52) h)

raised : (t h : ℕ) → t ≤ 2 * h → h ≤ 2 ^ 51 → (t + 2 ^ 52 + (t + 2 ^ 52)) * 2 ^ 52 ≤ (2 ^ 52 + 2 ^ 51 + h) * (2 ^ 52 + 2 ^ 51 + h)
raised t h l m = omega (arith, square_sum (2 ^ 52 + 2 ^ 51) h, q)
  where
    q : 2 * (2 ^ 51 * h) ≤ 2 ^ 51 * 2 ^ 51 + h * h
    q = let e : 2 ^ 51 - h + h ≡ 2 ^ 51 = omega arith in subst (λ (z : ℕ). 2 * (z * h) ≤ z * z + h * h) e (products (2 ^ 51 - h) h)

-- ---- values by their counts
counts_le : (x y : Float) (a b : ℕ) → HasValue x false a (2 ^ 1074) → HasValue y false b (2 ^ 1074) → a ≤ b → T (le x y)
counts_le nan y a b h k l = absurd h
counts_le (inf s) y a b h k l = absurd h
counts_le (fin s m e) nan a b h k l = absurd k
counts_le (fin s m e) (inf t) a b h k l = absurd k
counts_le (fin s m e) (fin t n d) a b h k l =
    rw (h.0, k.0) (leq→le false m e false n d (omega (arith, cross)))
  where
    cross : m * up e * down d ≤ n * up d * down e
    cross = le_of_mul-le-mul_right (both (2 ^ 1074) (m * up e) (n * up d) (down e) (down d) h.1 k.1) (pow_pos 1074)
      where
        both : (w p q u v : ℕ) → p * w ≡ a * u → q * w ≡ b * v → p * v * w ≤ q * u * w
        both w p q u v f g = omega (arith, ap (λ (z : ℕ). z * v) f, ap (λ (z : ℕ). z * u) g, mul-le-mul_right (u * v) l)

value_finite : (x : Float) (a c : ℕ) → HasValue x false a c → T (finite x)
value_finite nan a c h = absurd h
value_finite (inf s) a c h = absurd h
value_finite (fin s m e) a c h = tt

-- ---- the bound of the root of the number with the pattern b
module _ (b : ℕ) (lo : 2 ^ 52 ≤ b) (hi : b < 2047 * 2 ^ 52) where
  abbrev place : ℕ
  place = (exp b - 52) / 2

  abbrev digits : ℕ
  digits = b / 2 + 0x1ff8_0000_0000_0001 - place * 2 ^ 52

  pattern_is : b / 2 + 0x1ff8_0000_0000_0001 ≡ place * 2 ^ 52 + digits
  pattern_is = omega arith

  digits_in : (2 ^ 52 ≤ digits) × (digits ≤ 2 ^ 53) × (place ≤ 2044)
  digits_in = (omega arith, omega arith, omega arith)

  square_above : taken (sig b) (exp b) * 2 ^ 52 ≤ digits * digits
  square_above = go ((exp b - 52) % 2) refl (mod-lt (exp b - 52) (zero-lt-suc 1))
    where
      h : ℕ
      h = b % 2 ^ 52 / 2 + 1

      go : (o : ℕ) → (exp b - 52) % 2 ≡ o → o < 2 → (sig b + sig b * o) * 2 ^ 52 ≤ digits * digits
      go zero e l =
          let d : digits ≡ 2 ^ 52 + h = omega (arith, e) in
          rw (d, mul-zero (sig b), add-zero) (plain (b % 2 ^ 52) h (omega arith))
      go (suc zero) e l =
          let d : digits ≡ 2 ^ 52 + 2 ^ 51 + h = omega (arith, e) in
          rw (d, mul-one (sig b)) (raised (b % 2 ^ 52) h (omega arith) (omega arith))
      go (suc (suc o)) e l = absurd (not-le_of_lt l (omega arith))

  pub bound_no_nan : T (not (nan_bits binary64 (b / 2 + 0x1ff8_0000_0000_0001)))
  bound_no_nan = low_pattern (b / 2 + 0x1ff8_0000_0000_0001) (omega arith)

  seen : floats.Pattern b
  seen = floats.pattern_of b (omega arith)

  above_zero : lt +0 (of_bits binary64 b) ≡ true
  unfolding floats.unsigned to_bits size
  above_zero =
      floats.pattern_order +0 (of_bits binary64 b) refl seen.clear (unfold fits in tt) seen.held
      ∙ ap (ltb 0) seen.back
      ∙ lt-ltb 0 b (omega arith)

  pattern : Pattern (of_bits binary64 b) b
  pattern = subst (Pattern (of_bits binary64 b)) seen.back (pattern_below (of_bits binary64 b) seen.held above_zero (lt_of_le_of_lt (le_of_eq seen.back) hi))

  root : Correct (count_of b) (sqrt (of_bits binary64 b))
  root = correctly_rounded (of_bits binary64 b) (count_of b) seen.held pattern.count pattern.counted

  bound_is : of_bits binary64 (b / 2 + 0x1ff8_0000_0000_0001) ≡ units binary64 false digits place
  bound_is = ap (of_bits binary64) pattern_is ∙ placed_is digits place digits_in.0 digits_in.1 digits_in.2

  bound_value : HasValue (units binary64 false digits place) false (digits * 2 ^ place) (2 ^ 1074)
  bound_value = value digits place digits_in.0 digits_in.1 digits_in.2

  -- the bound's square is at least the number with the pattern `b`
  bound_square : count_of b * 2 ^ 1074 ≤ digits * 2 ^ place * (digits * 2 ^ place)
  bound_square =
      le_trans (le_of_eq (ap (λ (z : ℕ). z * 2 ^ 1074) (count_high b lo) ∙ high_root b lo ∙ same (sig b) (exp b) (high_scaled b lo hi)))
      (le_trans (mul-le-mul_right (2 ^ place * 2 ^ place) square_above) (le_of_eq (mul-mul-mul_comm digits digits (2 ^ place) (2 ^ place))))

  at_most : root.count ≤ digits * 2 ^ place
  at_most = elim (dec_le root.count (digits * 2 ^ place)) [
    | yes l ↦ l
    | no f ↦
        (let g : digits * 2 ^ place < root.count = lt_of_not-le f in
        absurd (smaller root.count (digits * 2 ^ place) (count_of b * 2 ^ 1074) g bound_square
        ((root.closest (units binary64 false digits place) (digits * 2 ^ place) (unit_fits digits place digits_in.0 digits_in.1 digits_in.2) bound_value).1 g)))
  ]
    where
      smaller : (r c n : ℕ) → c < r → n ≤ c * c → (r + c) * (r + c) < 4 * n → ⊥
      smaller r c n g h k = let l : (c + c) * (c + c) ≤ (r + c) * (r + c) = mul-le-mul (add-le-add (le_of_lt g) (le_refl c)) (add-le-add (le_of_lt g) (le_refl c)) in omega (arith, square_sum c c, l)

  pub root_bound : T (le (sqrt (of_bits binary64 b)) (of_bits binary64 (b / 2 + 0x1ff8_0000_0000_0001)))
  root_bound = rw bound_is (counts_le (sqrt (of_bits binary64 b)) (units binary64 false digits place) root.count (digits * 2 ^ place) root.value bound_value at_most)

  pub bound_finite : T (finite (of_bits binary64 (b / 2 + 0x1ff8_0000_0000_0001)))
  bound_finite = rw bound_is (value_finite (units binary64 false digits place) (digits * 2 ^ place) (2 ^ 1074) bound_value)
