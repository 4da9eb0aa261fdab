-- The two parts of ln 2, derived. The sums of its series rise, and all of at least 40 terms lie from that of 40 up to the same with 9/8 of the next term added; so does their limit, which is ln 2: that alone is not proved here. Every fraction in between, less the high part, has the low part for its nearest value. Assumes nothing.
use Rattle.std.proofs.Common.{◌≡◌, ℕ, zero, suc, ◌+◌, ◌-◌, ◌*◌, ◌/◌, ◌^◌, ◌<◌, ◌≤◌, Bool, true, false, T, ltb, sym, refl, ap, ◌∙◌, le_trans, le_of_eq, mul-le-mul_right, zero-lt-suc, mul_comm, le_antisymm, lt_of_mul-lt-mul_right, mul-le-mul_left, mul-lt-mul_of_pos_right, mul-pos, arith, pow_pos, pow-add, ltb-false, ltb-true}
use native.Mathlib.Nat.{mul-sub, one-le-pow}
use lib.Ieee.{Float, nan, inf, fin, binary64, to_bits, of_bits, size, round, add, sub, lt, fits}
use lib.Ieee.Bits.{of_bits-to_bits}
use lib.Ieee.Fits.{round-fits, add-fits}
use lib.Ieee.Order.{round_mono}
use lib.Ieee.Positive.{through}
use Rattle.floats.specs.Numbers.{◌+ᶠ◌, ◌-ᶠ◌, ratio}
use Rattle.floats.proofs.Order.Laws.{lt_not_le}
use Rattle.floats.proofs.Order.Patterns.{unsigned, pattern_order}
use Rattle.floats.proofs.Order.Rounding.{clear, round_clear}
use Rattle.elementary.specs.Logarithm.{ln_two_high, ln_two_low}
use Rattle.elementary.specs.LnTwo.{divisor, denominator, numerator}

-- ---- fractions: a / b is at most c / d where a * d ≤ c * b. The library's `through` goes over c / d from a / b to e / f; here one of the two steps is strict
-- below and at most
below_through : (a c e b d f : ℕ) → 0 < d → 0 < f → a * d < c * b → c * f ≤ e * d → a * f < e * b
below_through a c e b d f D F h k = lt_of_mul-lt-mul_right d (joined (mul-lt-mul_of_pos_right h F) (mul-le-mul_right b k))
  where
    joined : a * d * f < c * b * f → c * f * b ≤ e * d * b → a * f * d < e * b * d
    joined x y = omega (arith, x, y)

-- at most and below
through_below : (a c e b d f : ℕ) → 0 < d → 0 < b → a * d ≤ c * b → c * f < e * d → a * f < e * b
through_below a c e b d f D B h k = lt_of_mul-lt-mul_right d (joined (mul-le-mul_right f h) (mul-lt-mul_of_pos_right k B))
  where
    joined : a * d * f ≤ c * b * f → c * f * b < e * d * b → a * f * d < e * b * d
    joined x y = omega (arith, x, y)

-- ---- the terms and the sums
divisor_pos : (n : ℕ) → 0 < divisor n
unfolding divisor
divisor_pos n = mul-pos (some n) (one-le-pow (2 * n + 1) 3 (zero-lt-suc 2))
  where
    some : (n : ℕ) → 0 < 2 * n + 1
    some n = omega arith

denominator_pos : (n : ℕ) → 0 < denominator n
unfolding denominator
denominator_pos zero = omega arith
denominator_pos (suc n) = mul-pos (denominator_pos n) (divisor_pos n)

-- a term is at most a ninth of the one before it
ninth : (n : ℕ) → 9 * divisor n ≤ divisor (suc n)
unfolding divisor
ninth n = le_trans (wider n (3 ^ (2 * n + 1))) (le_of_eq (ap (λ (z : ℕ). (2 * suc n + 1) * z) (sym (pow-add 3 2 (2 * n + 1)) ∙ ap (λ (z : ℕ). 3 ^ z) (two_more n))))
  where
    two_more : (n : ℕ) → 2 + (2 * n + 1) ≡ 2 * suc n + 1
    two_more n = omega arith

    wider : (n w : ℕ) → 9 * ((2 * n + 1) * w) ≤ (2 * suc n + 1) * (3 ^ 2 * w)
    wider n w = omega arith

-- the sums rise
rises : (n : ℕ) → numerator n * denominator (suc n) ≤ numerator (suc n) * denominator n
unfolding numerator denominator
rises n = more (numerator n) (denominator n) (divisor n)
  where
    more : (N D d : ℕ) → N * (D * d) ≤ (N * d + 2 * D) * D
    more N D d = omega arith

pub sums_rise : (n k : ℕ) → numerator n * denominator (n + k) ≤ numerator (n + k) * denominator n
sums_rise n zero = let q : n + 0 ≡ n = omega arith in rw q (le_of_eq refl)
sums_rise n (suc k) =
    let q : n + suc k ≡ suc (n + k) = omega arith in
    rw q
    (through (numerator n) (numerator (n + k)) (numerator (suc (n + k))) (denominator n) (denominator (n + k)) (denominator (suc (n + k))) (denominator_pos (n + k)) (sums_rise n k) (rises (n + k)))

-- the sum of the first `n` terms and 9/8 of the next one, 9 / (4 * divisor n), is ceiling n / beneath n
abbrev pub ceiling : ℕ → ℕ
ceiling n = 4 * (numerator n * divisor n) + 9 * denominator n

abbrev pub beneath : ℕ → ℕ
beneath n = 4 * (denominator n * divisor n)

beneath_pos : (n : ℕ) → 0 < beneath n
beneath_pos n = mul-pos (zero-lt-suc 3) (mul-pos (denominator_pos n) (divisor_pos n))

-- no sum is above its own ceiling, and the ceilings fall
under : (n : ℕ) → numerator n * beneath n ≤ ceiling n * denominator n
under n = less (numerator n) (denominator n) (divisor n)
  where
    less : (N D d : ℕ) → N * (4 * (D * d)) ≤ (4 * (N * d) + 9 * D) * D
    less N D d = omega arith

falls : (n : ℕ) → ceiling (suc n) * beneath n ≤ ceiling n * beneath (suc n)
unfolding numerator denominator
falls n = less (numerator n) (denominator n) (divisor n) (divisor (suc n)) (ninth n)
  where
    less : (N D d f : ℕ) → 9 * d ≤ f → (4 * ((N * d + 2 * D) * f) + 9 * (D * d)) * (4 * (D * d)) ≤ (4 * (N * d) + 9 * D) * (4 * (D * d * f))
    less N D d f h =
        let w : D * (9 * d) ≤ D * f = mul-le-mul_left D h in
        let v : (4 * ((N * d + 2 * D) * f) + 9 * (D * d)) * (4 * (D * d)) ≤ (4 * (N * d) + 9 * D) * f * (4 * (D * d)) = mul-le-mul_right (4 * (D * d)) (omega (arith, w)) in
        le_trans v (omega arith)

ceilings_fall : (n k : ℕ) → ceiling (n + k) * beneath n ≤ ceiling n * beneath (n + k)
ceilings_fall n zero = let q : n + 0 ≡ n = omega arith in rw q (le_of_eq refl)
ceilings_fall n (suc k) =
    let q : n + suc k ≡ suc (n + k) = omega arith in
    rw q
    (through (ceiling (suc (n + k))) (ceiling (n + k)) (ceiling n) (beneath (suc (n + k))) (beneath (n + k)) (beneath n) (beneath_pos (n + k)) (falls (n + k)) (ceilings_fall n k))

-- the tail: what any further terms add is at most 9/8 of the next one
pub tail_bounded : (n k : ℕ) → numerator (n + k) * beneath n ≤ ceiling n * denominator (n + k)
tail_bounded n k = through (numerator (n + k)) (ceiling (n + k)) (ceiling n) (denominator (n + k)) (beneath (n + k)) (beneath n) (beneath_pos (n + k)) (under (n + k)) (ceilings_fall n k)

-- ---- what a fraction rounds to
-- without a sign
bare : (a b : ℕ) → unsigned (round binary64 false a b) ≡ true
unfolding unsigned
bare a b = go (round binary64 false a b) (round_clear binary64 a b)
  where
    go : (z : Float) → T (clear z) → unsigned z ≡ true
    go nan p = absurd p
    go (inf true) p = absurd p
    go (inf false) p = refl
    go (fin true m e) p = absurd p
    go (fin false m e) p = refl

-- a fraction that is no larger has no larger pattern
patterns_rise : (a b c d : ℕ) → 0 < b → 0 < d → a * d ≤ c * b → to_bits binary64 (ratio a b) ≤ to_bits binary64 (ratio c d)
unfolding ratio
patterns_rise a b c d B D h =
    let x = round binary64 false a b in
    let y = round binary64 false c d in
    ltb-false (to_bits binary64 y) (to_bits binary64 x)
    (sym (pattern_order y x (bare c d) (bare a b) (round-fits binary64 false c d) (round-fits binary64 false a b))
    ∙ never (lt y x) (λ (t : T (lt y x)). lt_not_le y x t (round_mono binary64 a b c d B D h)))
  where
    never : (b : Bool) → (T b → ⊥) → b ≡ false
    never true f = absurd (f tt)
    never false f = refl

-- between two fractions with one pattern there is no other
between : (p a b c d e f : ℕ) → 0 < b → 0 < d → 0 < f → a * d ≤ c * b → c * f ≤ e * d → to_bits binary64 (ratio a b) ≡ p → to_bits binary64 (ratio e f) ≡ p → to_bits binary64 (ratio c d) ≡ p
between p a b c d e f B D F h k x y = le_antisymm (le_trans (patterns_rise c d e f D F k) (le_of_eq y)) (le_trans (le_of_eq (sym x)) (patterns_rise a b c d B D h))

-- values with one pattern are one
same_pattern : (x y : Float) → T (fits binary64 x) → T (fits binary64 y) → to_bits binary64 x ≡ to_bits binary64 y → x ≡ y
same_pattern x y f g e = sym (of_bits-to_bits binary64 x f) ∙ ap (of_bits binary64) e ∙ of_bits-to_bits binary64 y g

ratio_fits : (a b : ℕ) → T (fits binary64 (ratio a b))
unfolding ratio
ratio_fits a b = round-fits binary64 false a b

-- ---- 0.6931471805599453, and the two parts, by their patterns
literal_pattern : to_bits binary64 (ratio 6931471805599453 (10 ^ 16)) ≡ 0x3fe6_2e42_fefa_39ef
unfolding to_bits ratio size
literal_pattern = refl

low_pattern : to_bits binary64 ln_two_low ≡ 0x3dea_39ef_3579_3c76
unfolding to_bits ratio size
low_pattern = refl

sum_pattern : to_bits binary64 (ln_two_high +ᶠ ln_two_low) ≡ 0x3fe6_2e42_fefa_39ef
unfolding to_bits ratio size add
sum_pattern = refl

-- the high part is 0.6931471805599453 with its low 21 bits cleared
pub high_cleared : to_bits binary64 ln_two_high ≡ to_bits binary64 (ratio 6931471805599453 (10 ^ 16)) / 2 ^ 21 * 2 ^ 21
unfolding to_bits ratio size
high_cleared = refl

-- the two parts add up to it
pub parts_add : ln_two_high +ᶠ ln_two_low ≡ ratio 6931471805599453 (10 ^ 16)
parts_add = same_pattern (ln_two_high +ᶠ ln_two_low) (ratio 6931471805599453 (10 ^ 16)) (add-fits binary64 ln_two_high ln_two_low) (ratio_fits 6931471805599453 (10 ^ 16)) (sum_pattern ∙ sym literal_pattern)

-- but what it has beyond the high part is not the low one
rounded_pattern : to_bits binary64 (ratio 6931471805599453 (10 ^ 16) -ᶠ ln_two_high) ≡ 0x3dea_39ef_0000_0000
unfolding to_bits ratio size sub
rounded_pattern = refl

pub rounded_is_another : ratio 6931471805599453 (10 ^ 16) -ᶠ ln_two_high ≡ ln_two_low → ⊥
rounded_is_another e = apart (sym rounded_pattern ∙ ap (to_bits binary64) e ∙ low_pattern)
  where
    apart : ◌≡◌ {A = ℕ} 0x3dea_39ef_0000_0000 0x3dea_39ef_3579_3c76 → ⊥
    apart e = omega (arith, e)

-- it is the value nearest to every sum of 40 terms or more
literal_from : to_bits binary64 (ratio (numerator 40) (denominator 40)) ≡ 0x3fe6_2e42_fefa_39ef
unfolding to_bits ratio size numerator denominator divisor
literal_from = refl

literal_to : to_bits binary64 (ratio (ceiling 40) (beneath 40)) ≡ 0x3fe6_2e42_fefa_39ef
unfolding to_bits ratio size numerator denominator divisor
literal_to = refl

pub literal_nearest : (k : ℕ) → ratio (numerator (40 + k)) (denominator (40 + k)) ≡ ratio 6931471805599453 (10 ^ 16)
literal_nearest k =
    same_pattern (ratio (numerator (40 + k)) (denominator (40 + k))) (ratio 6931471805599453 (10 ^ 16)) (ratio_fits _ _) (ratio_fits _ _)
    (between 0x3fe6_2e42_fefa_39ef (numerator 40) (denominator 40) (numerator (40 + k)) (denominator (40 + k)) (ceiling 40) (beneath 40)
    (denominator_pos 40) (denominator_pos (40 + k)) (beneath_pos 40) (sums_rise 40 k) (tail_bounded 40 k) literal_from literal_to
    ∙ sym literal_pattern)

-- ---- the low part
-- the fraction `a / b` less the high part is lessHigh a b / (b * 2 ^ 32)
abbrev pub less_high : ℕ → ℕ → ℕ
less_high a b = a * 2 ^ 32 - 2977044471 * b

less_rises : (a b c d : ℕ) → a * d ≤ c * b → less_high a b * (d * 2 ^ 32) ≤ less_high c d * (b * 2 ^ 32)
less_rises a b c d h = scaled (less_high a b) (less_high c d) (le_trans (le_of_eq (spread a b d)) (le_trans (omega (arith, h)) (le_of_eq (sym (spread c d b)))))
  where
    spread : (a b d : ℕ) → less_high a b * d ≡ d * (a * 2 ^ 32) - d * (2977044471 * b)
    spread a b d = mul_comm (less_high a b) d ∙ mul-sub d (a * 2 ^ 32) (2977044471 * b)

    scaled : (x y : ℕ) → x * d ≤ y * b → x * (d * 2 ^ 32) ≤ y * (b * 2 ^ 32)
    scaled x y h = omega (arith, h)

low_from : to_bits binary64 (ratio (less_high (numerator 40) (denominator 40)) (denominator 40 * 2 ^ 32)) ≡ 0x3dea_39ef_3579_3c76
unfolding to_bits ratio size numerator denominator divisor
low_from = refl

low_to : to_bits binary64 (ratio (less_high (ceiling 40) (beneath 40)) (beneath 40 * 2 ^ 32)) ≡ 0x3dea_39ef_3579_3c76
unfolding to_bits ratio size numerator denominator divisor
low_to = refl

-- it is the value nearest to every sum of 40 terms or more less the high part
pub low_nearest : (k : ℕ) → ratio (less_high (numerator (40 + k)) (denominator (40 + k))) (denominator (40 + k) * 2 ^ 32) ≡ ln_two_low
low_nearest k =
    let N = numerator (40 + k) in
    let D = denominator (40 + k) in
    same_pattern (ratio (less_high N D) (D * 2 ^ 32)) ln_two_low (ratio_fits _ _) (ratio_fits _ _)
    (between 0x3dea_39ef_3579_3c76 (less_high (numerator 40) (denominator 40)) (denominator 40 * 2 ^ 32) (less_high N D) (D * 2 ^ 32) (less_high (ceiling 40) (beneath 40)) (beneath 40 * 2 ^ 32)
    (mul-pos (denominator_pos 40) (pow_pos 32)) (mul-pos (denominator_pos (40 + k)) (pow_pos 32)) (mul-pos (beneath_pos 40) (pow_pos 32))
    (less_rises (numerator 40) (denominator 40) N D (sums_rise 40 k)) (less_rises N D (ceiling 40) (beneath 40) (tail_bounded 40 k)) low_from low_to
    ∙ sym low_pattern)

-- ---- half a unit of the low part's last place, which is 2 ^ -85: both parts together in units of 2 ^ -86
abbrev pub both_parts : ℕ
both_parts = 2977044471 * 2 ^ 54 + 2 * 7382048951581814

-- the low part has all of its 53 digits
pub low_digits : size 7382048951581814 ≡ 53
unfolding size
low_digits = refl

from_test : ltb ((both_parts - 1) * denominator 40) (numerator 40 * 2 ^ 86) ≡ true
unfolding numerator denominator divisor
from_test = refl

to_test : ltb (ceiling 40 * 2 ^ 86) ((both_parts + 1) * beneath 40) ≡ true
unfolding numerator denominator divisor
to_test = refl

-- the sum of 40 terms, and its ceiling, are less than that from them
pub from_within : (both_parts - 1) * denominator 40 < numerator 40 * 2 ^ 86
from_within = ltb-true _ _ from_test

pub to_within : ceiling 40 * 2 ^ 86 < (both_parts + 1) * beneath 40
to_within = ltb-true _ _ to_test

-- and so is every sum of 40 terms or more
pub sums_within : (k : ℕ) → ((both_parts - 1) * denominator (40 + k) < numerator (40 + k) * 2 ^ 86) × (numerator (40 + k) * 2 ^ 86 < (both_parts + 1) * denominator (40 + k))
sums_within k = (
  below_through (both_parts - 1) (numerator 40) (numerator (40 + k)) (2 ^ 86) (denominator 40) (denominator (40 + k)) (denominator_pos 40) (denominator_pos (40 + k)) from_within (sums_rise 40 k),
  through_below (numerator (40 + k)) (ceiling 40) (both_parts + 1) (denominator (40 + k)) (beneath 40) (2 ^ 86) (beneath_pos 40) (denominator_pos (40 + k)) (tail_bounded 40 k) to_within,
)
