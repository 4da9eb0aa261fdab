-- A whole number of at least 1 times a value other than -0 is not -0, and neither is any whole number times a value above 0. Assumes nothing.
use mathlib.Core.Path.{◌≡◌, refl}
use Prim.Native.Nat.{ℕ, zero, suc, ◌*◌, ◌^◌, ◌≤◌, ◌<◌}
use native.Mathlib.Nat.{mul_assoc, mul-pos, mul-le-mul, mul-le-mul_right, zero-lt-suc}
use native.Mathlib.Omega.{arith}
use mathlib.Core.Bool.{Bool, true, false, not, cond, true≢false}
use lib.Dec.{T, eqb}
use lib.IntN.{ℤ, pos, negsuc}
use lib.Pow.{pow_pos}
use lib.Ieee.{Float, nan, inf, fin, binary64, low, up, down, round, unlike, mul, le, fits, of_int}
use lib.Ieee.Fits.{down_pos, mul-fits}
use Rattle.floats.specs.Numbers.{◌*ᶠ◌, of_whole}
use Rattle.floats.proofs.Exact.{counted}
use Rattle.floats.proofs.MinusZero.{minus_zero, plain_round, negative_round, Plain}
use Rattle.floats.proofs.Order.Fractions.{Leq, le→leq}
use Rattle.floats.proofs.Order.Rounding.{clear, round_clear, round_le}

-- ---- at least 1 in size, and above 0
abbrev Sizable : Float → Type 0
Sizable nan = Unit {0}
Sizable (inf s) = Unit {0}
Sizable (fin s m e) = down e ≤ m * up e

abbrev pub above : Float → Bool
above nan = false
above (inf s) = not s
above (fin s zero e) = false
above (fin s (suc m) e) = not s

whole_sizable : (s : Bool) (n : ℕ) → Sizable (round binary64 s (suc n) 1)
unfolding round
whole_sizable false n = go (round binary64 false (suc n) 1) (round_le binary64 false 1 1 false (suc n) 1 (omega arith) (omega arith) (omega arith))
  where
    from : (u d m : ℕ) → Leq false (1 * 1) 1 false (m * u) d → d ≤ m * u
    from u d m h = omega (arith, h)

    never : (u d m : ℕ) → 0 < d → Leq false (1 * 1) 1 true (m * u) d → d ≤ m * u
    never u d m p h = omega (arith, p, h)

    go : (z : Float) → T (le (round binary64 false 1 1) z) → Sizable z
    go nan v = tt
    go (inf s) v = tt
    go (fin false m e) v = from (up e) (down e) m (le→leq false 1 (pos 0) false m e v)
    go (fin true m e) v = never (up e) (down e) m (down_pos e) (le→leq false 1 (pos 0) true m e v)
whole_sizable true n = go (round binary64 true (suc n) 1) (round_le binary64 true (suc n) 1 true 1 1 (omega arith) (omega arith) (omega arith))
  where
    from : (u d m : ℕ) → Leq true (m * u) d true (1 * 1) 1 → d ≤ m * u
    from u d m h = omega (arith, h)

    never : (u d m : ℕ) → 0 < d → Leq false (m * u) d true (1 * 1) 1 → d ≤ m * u
    never u d m p h = omega (arith, p, h)

    go : (z : Float) → T (le z (round binary64 true 1 1)) → Sizable z
    go nan v = tt
    go (inf s) v = tt
    go (fin true m e) v = from (up e) (down e) m (le→leq true m e true 1 (pos 0) v)
    go (fin false m e) v = never (up e) (down e) m (down_pos e) (le→leq false m e true 1 (pos 0) v)

-- ---- a product that is as much as the smallest value
as_much : (t : Bool) (m : ℕ) (e : ℤ) (n : ℕ) (d : ℤ) → down e ≤ m * up e → T (fits binary64 (fin t (suc n) d)) → down e * down d ≤ m * up e * (suc n * up d) * 2 ^ low binary64
as_much t m e n d h f = let j = counted t (suc n) d f in within (m * up e) (suc n * up d) (2 ^ low binary64) (suc n * 2 ^ j.0) h (mul-pos (zero-lt-suc n) (pow_pos j.0)) j.1
  where
    within : (x y w p : ℕ) → down e ≤ x → 0 < p → y * w ≡ p * down d → down e * down d ≤ x * y * w
    within x y w p h q k =
        let a : 1 * down d ≤ p * down d = mul-le-mul_right (down d) q in
        let b : down d ≤ y * w = omega (arith, a, k) in
        rw (mul_assoc x y w) (mul-le-mul h b)

negative_product : (t : Bool) (m : ℕ) (e : ℤ) (n : ℕ) (d : ℤ) → down e ≤ m * up e → T (fits binary64 (fin t (suc n) d)) → minus_zero (round binary64 true (m * up e * (suc n * up d)) (down e * down d)) ≡ false
negative_product t m e n d h f = negative_round (m * up e * (suc n * up d)) (down e * down d) (mul-pos (down_pos e) (down_pos d)) (as_much t m e n d h f)

-- an infinity times a number, which is NaN or an infinity
endless : (b s : Bool) → minus_zero (cond b nan (inf s)) ≡ false
endless true s = refl
endless false s = refl

-- ---- a whole number of at least 1 times a value other than -0
clear_times : (z y : Float) → T (clear z) → Sizable z → T (fits binary64 y) → minus_zero y ≡ false → minus_zero (z *ᶠ y) ≡ false
unfolding mul
clear_times nan y p q f h = absurd p
clear_times (inf true) y p q f h = absurd p
clear_times (inf false) nan p q f h = refl
clear_times (inf false) (inf t) p q f h = refl
clear_times (inf false) (fin t n d) p q f h = endless (eqb n 0) (unlike false t)
clear_times (fin true m e) y p q f h = absurd p
clear_times (fin false m e) nan p q f h = refl
clear_times (fin false m e) (inf t) p q f h = endless (eqb m 0) (unlike false t)
clear_times (fin false m e) (fin false n d) p q f h = plain_round (m * up e * (n * up d)) (down e * down d)
clear_times (fin false m e) (fin true zero d) p q f h = absurd (true≢false h)
clear_times (fin false m e) (fin true (suc n) d) p q f h = negative_product true m e n d q f

pub whole_times : (n : ℕ) {y : Float} → Plain y → Plain (of_whole (suc n) *ᶠ y)
unfolding of_int
whole_times n {y} p =
    record { held = mul-fits binary64 (of_whole (suc n)) y; other = clear_times (round binary64 false (suc n) 1) y (round_clear binary64 (suc n) 1) (whole_sizable false n) p.held p.other }

-- ---- any whole number times a value above 0
sizable_times : (z y : Float) → Sizable z → T (fits binary64 y) → T (above y) → minus_zero (z *ᶠ y) ≡ false
unfolding mul
sizable_times nan y q f h = refl
sizable_times (inf s) nan q f h = refl
sizable_times (inf s) (inf t) q f h = refl
sizable_times (inf s) (fin t n d) q f h = endless (eqb n 0) (unlike s t)
sizable_times (fin s m e) nan q f h = refl
sizable_times (fin s m e) (inf t) q f h = endless (eqb m 0) (unlike s t)
sizable_times (fin s m e) (fin t zero d) q f h = absurd h
sizable_times (fin s m e) (fin true (suc n) d) q f h = absurd h
sizable_times (fin false m e) (fin false (suc n) d) q f h = plain_round (m * up e * (suc n * up d)) (down e * down d)
sizable_times (fin true m e) (fin false (suc n) d) q f h = negative_product false m e n d q f

zero_times : (y : Float) → T (above y) → minus_zero (fin false 0 (pos 0) *ᶠ y) ≡ false
unfolding mul
zero_times nan h = refl
zero_times (inf t) h = refl
zero_times (fin t zero d) h = absurd h
zero_times (fin true (suc n) d) h = absurd h
zero_times (fin false (suc n) d) h = plain_round (0 * 1 * (suc n * up d)) (1 * down d)

pub integer_times : (e : ℤ) (y : Float) → T (fits binary64 y) → T (above y) → Plain (of_int binary64 e *ᶠ y)
integer_times e y f h = record { held = mul-fits binary64 (of_int binary64 e) y; other = go e }
  where
    go : (e : ℤ) → minus_zero (of_int binary64 e *ᶠ y) ≡ false
    go (pos zero) = unfold of_int round in zero_times y h
    go (pos (suc n)) = unfold of_int in sizable_times (round binary64 false (suc n) 1) y (whole_sizable false n) f h
    go (negsuc n) = unfold of_int in sizable_times (round binary64 true (suc n) 1) y (whole_sizable true n) f h
