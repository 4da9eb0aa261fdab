-- Where an operation changes nothing: a value that binary64 holds is itself where it is rounded, multiplied by 1 or added to -0, and added to +0 if it is not -0. Assumes nothing.
use mathlib.Core.Path.{◌≡◌, refl, sym, ap, ◌∙◌}
use Prim.Native.Nat.{ℕ, zero, suc, ◌+◌, ◌-◌, ◌*◌, ◌/◌, ◌%◌, ◌^◌, ◌≤◌, ◌<◌}
use native.Mathlib.Nat.{mul-one, one-mul, zero-mul, zero-add, sub-zero, mul_assoc, mul_right_comm, mul-pos, mul-le-mul_right, mul-lt-mul_of_pos_right, lt_of_mul-lt-mul_right, zero-lt-suc}
use native.Mathlib.Omega.{arith}
use mathlib.Core.Bool.{Bool, true, false, ◌&&◌, cond}
use borrow.Author.Tests.{lt-ltb, ltb-true, ltb-false}
use lib.Dec.{T, eqb, leb, ltb, eqb→eq, leb→le, ltb→lt}
use lib.IntN.{ℤ, pos, negsuc}
use lib.Pow.{pow-add, pow_pos, pow-lt}
use lib.Ieee.{Float, nan, inf, fin, binary64, prec, emax, low, top, hid, up, down, size, round, sum, add, mul, fits, of_bits, to_bits}
use lib.Ieee.Bits.{of_bits-to_bits}
use lib.Ieee.Exact.{HasValue, round_exact}
use lib.Ieee.Fits.{up_pos, down_pos, and_l, and_r, round-fits}
use lib.Ieee.Nearest.{div_same}
use Rattle.floats.specs.Numbers.{◌+ᶠ◌, ◌*ᶠ◌, +0}
use Rattle.floats.specs.Finite.{abs}
use Rattle.floats.specs.Inner.MinusZero.{negative_zero}
use Rattle.floats.proofs.Order.Magnitude.{abs_zero}
use Rattle.floats.proofs.Order.Zero.{zero_equals}

-- ---- what the format holds
-- m * 2 ^ e has at most 53 digits, is a whole number of the smallest values, and does not overflow
record Held (m : ℕ) (e : ℤ) : Type 0 where
  short : m < 2 ^ prec binary64
  fine : down e ≤ 2 ^ low binary64
  under : m * up e < 2 ^ suc (emax binary64) * down e

held : (s : Bool) (m : ℕ) (e : ℤ) → T (fits binary64 (fin s m e)) → Held m e
unfolding fits
held s zero e h =
    record {
      short = pow_pos (prec binary64);
      fine = small (up e) (down e) (2 ^ low binary64) (up_pos e) (pow_pos (low binary64)) (eqb→eq (up e * down e) 1 h);
      under = some (up e) (2 ^ suc (emax binary64) * down e) (mul-pos (pow_pos (suc (emax binary64))) (down_pos e));
    }
  where
    small : (u d w : ℕ) → 0 < u → 0 < w → u * d ≡ 1 → d ≤ w
    small u d w p q h = let k : 1 * d ≤ u * d = mul-le-mul_right d p in omega (arith, k, h, q)

    some : (u t : ℕ) → 0 < t → 0 * u < t
    some u t h = omega (arith, h)
held s (suc m) e h =
    let a = eqb (suc m % 2) 1 in
    let b = ltb (suc m) (2 ^ prec binary64) in
    let c = leb (down e) (2 ^ low binary64) in
    let d = ltb (suc m * up e) (2 ^ suc (emax binary64) * down e) in
    record {
      short = ltb→lt (suc m) (2 ^ prec binary64) (and_r a b (and_l (a && b) c (and_l (a && b && c) d h)));
      fine = leb→le (down e) (2 ^ low binary64) (and_r (a && b) c (and_l (a && b && c) d h));
      under = ltb→lt (suc m * up e) (2 ^ suc (emax binary64) * down e) (and_r (a && b && c) d h);
    }

-- 2 ^ e in units of 2 ^ -l
shift : (l : ℕ) (e : ℤ) → down e ≤ 2 ^ l → (j : ℕ) × (up e * 2 ^ l ≡ 2 ^ j * down e)
shift l (pos k) h = (k + l, sym (pow-add 2 k l) ∙ sym (mul-one (2 ^ (k + l))))
shift l (negsuc a) h =
    let le : suc a ≤ l = within (ltb l (suc a)) refl in
    let e : l ≡ l - suc a + suc a = omega (arith, le) in
    (l - suc a, one-mul (2 ^ l) ∙ ap (λ (x : ℕ). 2 ^ x) e ∙ pow-add 2 (l - suc a) (suc a))
  where
    apart : (v w : ℕ) → v ≤ w → w < v → ⊥
    apart v w h g = omega (arith, h, g)

    within : (t : Bool) → ltb l (suc a) ≡ t → suc a ≤ l
    within true e = absurd (apart (2 ^ suc a) (2 ^ l) h (pow-lt {i = l} {j = suc a} (ltb-true l (suc a) e)))
    within false e = ltb-false l (suc a) e

sized : (m u w p d : ℕ) → u * w ≡ p * d → m * u * w ≡ m * p * d
sized m u w p d e = mul_assoc m u w ∙ ap (λ (z : ℕ). m * z) e ∙ sym (mul_assoc m p d)

-- a value that the format holds is a whole number, `m * 2 ^ j`, of the smallest values
pub counted : (s : Bool) (m : ℕ) (e : ℤ) → T (fits binary64 (fin s m e)) → (j : ℕ) × (m * up e * 2 ^ low binary64 ≡ m * 2 ^ j * down e)
counted s m e f = let j = shift (low binary64) e (held s m e f).fine in (j.0, sized m (up e) (2 ^ low binary64) (2 ^ j.0) (down e) j.1)

-- ---- rounded
-- two values that the format holds are the same where their signs and sizes are
same_number : (t s : Bool) (n : ℕ) (d : ℤ) (m : ℕ) (e : ℤ) → t ≡ s → T (fits binary64 (fin t n d)) → T (fits binary64 (fin s m e)) → n * up d * down e ≡ m * up e * down d → fin t n d ≡ fin s m e
unfolding to_bits
same_number t s n d m e q g f h =
    sym (of_bits-to_bits binary64 (fin t n d) g)
    ∙ ap (λ (u : Bool). of_bits binary64 (to_bits binary64 (fin u n d))) q
    ∙ ap (λ (z : ℕ). of_bits binary64 (cond s (top binary64) 0 + (size z - prec binary64) * hid binary64 + z / 2 ^ (size z - prec binary64)))
    (div_same (n * up d * 2 ^ low binary64) (down d) (m * up e * 2 ^ low binary64) (down e) (down_pos d) (down_pos e) (scaled (n * up d) (down d) (m * up e) (down e) (2 ^ low binary64) h))
    ∙ of_bits-to_bits binary64 (fin s m e) f
  where
    scaled : (a b c d w : ℕ) → a * d ≡ c * b → a * w * d ≡ c * w * b
    scaled a b c d w e = mul_right_comm a w d ∙ ap (λ (z : ℕ). z * w) e ∙ mul_right_comm c b w

exact : (s : Bool) (m : ℕ) (e : ℤ) → Held m e → HasValue (round binary64 s (m * up e) (down e)) s (m * up e) (down e)
exact s m e h =
    let j = shift (low binary64) e h.fine in
    round_exact binary64 s (m * up e) (down e) m j.0 (down_pos e) h.short
    (fewer m (up e) (down e) (2 ^ j.0) (2 ^ low binary64) (2 ^ suc (emax binary64)) (2 ^ (low binary64 + suc (emax binary64))) (pow_pos (low binary64)) h.under j.1 (pow-add 2 (low binary64) (suc (emax binary64))))
    (sized m (up e) (2 ^ low binary64) (2 ^ j.0) (down e) j.1)
  where
    fewer : (m u d p w q t : ℕ) → 0 < w → m * u < q * d → u * w ≡ p * d → t ≡ w * q → m * p < t
    fewer m u d p w q t W h e f =
        let a : m * u * w < q * d * w = mul-lt-mul_of_pos_right h W in
        let b : m * u * w ≡ m * p * d = sized m u w p d e in
        let c : t * d ≡ w * q * d = ap (λ (z : ℕ). z * d) f in
        lt_of_mul-lt-mul_right d (omega (arith, a, b, c))

pub round_own : (s : Bool) (m : ℕ) (e : ℤ) → T (fits binary64 (fin s m e)) → round binary64 s (m * up e) (down e) ≡ fin s m e
round_own s m e f = go (round binary64 s (m * up e) (down e)) (round-fits binary64 s (m * up e) (down e)) (exact s m e (held s m e f))
  where
    go : (z : Float) → T (fits binary64 z) → HasValue z s (m * up e) (down e) → z ≡ fin s m e
    go nan g v = absurd v
    go (inf t) g v = absurd v
    go (fin t n d) g v = same_number t s n d m e v.0 g f v.1

-- ---- times 1
pub one_times : (y : Float) → T (fits binary64 y) → fin false 1 (pos 0) *ᶠ y ≡ y
unfolding mul
one_times nan f = refl
one_times (inf true) f = refl
one_times (inf false) f = refl
one_times (fin true m e) f = rw (one-mul (m * up e), one-mul (down e)) (round_own true m e f)
one_times (fin false m e) f = rw (one-mul (m * up e), one-mul (down e)) (round_own false m e f)

-- ---- added to a zero
-- a fraction `b / c` that is not zero
sum_some : (z s : Bool) (b c : ℕ) → 0 < b → sum binary64 z 0 s b c ≡ round binary64 s b c
unfolding sum
sum_some true true b c h = rw (zero-add b)
sum_some false false b c h = rw (zero-add b)
sum_some true false b c h = rw (lt-ltb 0 b h, sub-zero b)
sum_some false true b c h = rw (lt-ltb 0 b h, sub-zero b)

zero_plus_some : (z s : Bool) (m : ℕ) (e : ℤ) → T (fits binary64 (fin s (suc m) e)) → fin z 0 (pos 0) +ᶠ fin s (suc m) e ≡ fin s (suc m) e
unfolding add
zero_plus_some z s m e f =
    rw (zero-mul (down e), mul-one (suc m * up e), one-mul (down e))
    (sum_some z s (suc m * up e) (down e) (mul-pos (zero-lt-suc m) (up_pos e)) ∙ round_own s (suc m) e f)

-- a zero that the format holds is one of the two
pub only_zero : (s : Bool) (e : ℤ) → T (fits binary64 (fin s zero e)) → fin s zero e ≡ fin s 0 (pos 0)
unfolding abs
only_zero s e f = ap (fin s zero) (exponent (abs_zero (fin s zero e) f (zero_equals s e)))
  where
    exponent : fin false 0 (pos 0) ≡ fin false zero e → e ≡ pos 0
    exponent q = cc

pub minus_zero_plus : (y : Float) → T (fits binary64 y) → negative_zero +ᶠ y ≡ y
minus_zero_plus nan f = unfold add in refl
minus_zero_plus (inf s) f = unfold add in refl
minus_zero_plus (fin s (suc m) e) f = zero_plus_some true s m e f
minus_zero_plus (fin true zero e) f = rw (only_zero true e f) (unfold add in refl)
minus_zero_plus (fin false zero e) f = rw (only_zero false e f) (unfold add in refl)

pub zero_plus : (y : Float) → T (fits binary64 y) → (y ≡ negative_zero → ⊥) → +0 +ᶠ y ≡ y
zero_plus nan f h = unfold add in refl
zero_plus (inf s) f h = unfold add in refl
zero_plus (fin s (suc m) e) f h = zero_plus_some false s m e f
zero_plus (fin true zero e) f h = absurd (h (only_zero true e f))
zero_plus (fin false zero e) f h = rw (only_zero false e f) (unfold add in refl)

-- added to either zero
pub either_zero_plus : (z : Bool) (y : Float) → T (fits binary64 y) → (y ≡ negative_zero → ⊥) → fin z 0 (pos 0) +ᶠ y ≡ y
either_zero_plus true y f h = minus_zero_plus y f
either_zero_plus false y f h = zero_plus y f h
