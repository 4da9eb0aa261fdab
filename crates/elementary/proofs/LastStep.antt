-- The last step of the logarithm: the product of the exponent and the high part of ln 2 is exact for every exponent that a value can have, with an exponent of 0 the result is that of the rule with ln 2 in one part, and the logarithm of 1 is +0. Assumes nothing.
use Rattle.std.proofs.Common.{◌≡◌, ℕ, zero, suc, ◌+◌, ◌-◌, ◌*◌, ◌^◌, ◌<◌, ◌≤◌, Bool, true, false, cond, T, ltb, ℤ, pos, negsuc, ◌+ℤ◌, ◌-ℤ◌, nat_abs, sym, refl, ap, ◌∙◌, subst, ap₂, zero-le, lt_of_lt_of_le, add-zero, zero-lt-suc, mul_assoc, mul-pos, zero-mul, mul-one, arith, lit≤, pow_pos, pow_mono, pow-add, shl_lt, le-ltb, lt-ltb}
use native.Mathlib.Nat.{sub-zero, mul-mul-mul_comm}
use lib.Ieee.{Float, nan, inf, fin, binary64, up, down, size, units, round, unlike, sum, add, sub, mul, div, lt, of_int, fits}
use lib.Ieee.Back.{round_whole}
use lib.Ieee.Exact.{HasValue, round_exact}
use lib.Ieee.Fits.{up_pos, down_pos, mul-fits}
use lib.Ieee.Scale.{round_same}
use Rattle.floats.specs.Numbers.{◌+ᶠ◌, ◌-ᶠ◌, ◌*ᶠ◌, ◌/ᶠ◌, ◌<ᶠ◌, +0, of_whole, ratio}
use Rattle.floats.proofs.Exact.{round_own, only_zero}
use Rattle.elementary.specs.Logarithm.{series, ln_two_high, ln_two_low, ln_of, ln_scaled, ln}
use Rattle.elementary.proofs.parts.Digits.{scaled_of}
use Rattle.elementary.proofs.logarithm.Exponents.{one_more}
use Rattle.elementary.proofs.logarithm.Scaling.{ln_of_value, ln_of_parts}

-- ---- a product of values is their fractions' product, rounded once
product : (x y : Float) (s t : Bool) (a c b d : ℕ) → 0 < c → 0 < d → HasValue x s a c → HasValue y t b d → x *ᶠ y ≡ round binary64 (unlike s t) (a * b) (c * d)
unfolding mul
product nan y s t a c b d C D h k = absurd h
product (inf z) y s t a c b d C D h k = absurd h
product (fin z m e) nan s t a c b d C D h k = absurd k
product (fin z m e) (inf w) s t a c b d C D h k = absurd k
product (fin z m e) (fin w n f) s t a c b d C D h k =
    ap₂ (λ (p q : Bool). round binary64 (unlike p q) (m * up e * (n * up f)) (down e * down f)) h.0 k.0
    ∙ round_same binary64 (unlike s t) (m * up e * (n * up f)) (down e * down f) (a * b) (c * d) (mul-pos (down_pos e) (down_pos f)) (mul-pos C D)
    (mul-mul-mul_comm (m * up e) (n * up f) c d ∙ ap₂ (λ (p q : ℕ). p * q) h.1 k.1 ∙ mul-mul-mul_comm a (down e) b (down f))

-- ---- the high part has 32 binary digits, so that its product with a whole number of up to 2 ^ 20 has at most 52
high_value : HasValue ln_two_high false 2977044471 (2 ^ 32)
unfolding ratio
high_value = (refl, refl)

in_format : (s : Bool) (n : ℕ) → n ≤ 2 ^ 20 → HasValue (round binary64 s (n * 2977044471) (1 * 2 ^ 32)) s (n * 2977044471) (2 ^ 32)
in_format s n h =
    let q = n * 2977044471 in
    round_exact binary64 s q (2 ^ 32) q 1042 (pow_pos 32) (short n h)
    (lt_of_lt_of_le (shl_lt 53 1042 (short n h)) (pow_mono {i = 53 + 1042} {j = 2098} (lit≤ tt)))
    (ap (λ (z : ℕ). q * z) (pow-add 2 1042 32) ∙ sym (mul_assoc q (2 ^ 1042) (2 ^ 32)))
  where
    short : (n : ℕ) → n ≤ 2 ^ 20 → n * 2977044471 < 2 ^ 53
    short n h = omega arith

times_high : (s : Bool) (n : ℕ) → n ≤ 2 ^ 20 → HasValue (round binary64 s n 1 *ᶠ ln_two_high) s (n * 2977044471) (2 ^ 32)
times_high s n h =
    subst (λ (z : Float). HasValue z s (n * 2977044471) (2 ^ 32))
    (sym (product (round binary64 s n 1) ln_two_high s false n 1 2977044471 (2 ^ 32) (zero-lt-suc 0) (pow_pos 32) (round_whole binary64 s n (wide n h)) high_value ∙ ap (λ (t : Bool). round binary64 t (n * 2977044471) (1 * 2 ^ 32)) (sign s)))
    (in_format s n h)
  where
    wide : (n : ℕ) → n ≤ 2 ^ 20 → n ≤ 2 ^ 53
    wide n h = omega arith

    sign : (s : Bool) → unlike s false ≡ s
    sign true = refl
    sign false = refl

-- whether a whole number is below zero
abbrev pub below_zero : ℤ → Bool
below_zero (pos n) = false
below_zero (negsuc n) = true

pub high_exact : (e : ℤ) → nat_abs e ≤ 2 ^ 20 → HasValue (of_int binary64 e *ᶠ ln_two_high) (below_zero e) (nat_abs e * 2977044471) (2 ^ 32)
unfolding of_int
high_exact (pos n) h = times_high false n h
high_exact (negsuc n) h = times_high true (suc n) h

-- ---- the exponents of the format's values
-- the logarithm of `x` is the last step with the exponent `e`, which is at most 1074 in size, and whose product with the high part is exact
pub record Step (x : Float) : Type 0 where
  pub e : ℤ
  pub s : Float
  pub is : ln x ≡ ln_of e s
  pub small : nat_abs e ≤ 1074
  pub exact : HasValue (of_int binary64 e *ᶠ ln_two_high) (below_zero e) (nat_abs e * 2977044471) (2 ^ 32)

in_range : (p : ℕ) → 1022 ≤ p → p ≤ 3120 → nat_abs (pos p -ℤ pos 2096) ≤ 1074
in_range p l h = go (ltb p 2096)
  where
    go : (b : Bool) → nat_abs (cond b (negsuc (2096 - suc p)) (pos (p - 2096))) ≤ 1074
    go true = omega arith
    go false = omega arith

step : (x : Float) (p : ℕ) (s : Float) → ln x ≡ ln_of (pos p -ℤ pos 2096) s → 1022 ≤ p → p ≤ 3120 → Step x
step x p s is l h =
    let small = in_range p l h in
    record { e = pos p -ℤ pos 2096; s = s; is = is; small = small; exact = high_exact (pos p -ℤ pos 2096) (omega (arith, small)) }

-- for every value above zero that the format holds
pub ln_step : (x : Float) (n : ℕ) → T (fits binary64 x) → HasValue x false n (2 ^ 1074) → 0 < n → Step x
unfolding ln_scaled
ln_step x n f h p =
    let w = scaled_of x n f h p in
    let g = w.0 in
    let q = w.1.0 in
    let S = w.1.1.0 in
    go q S.2 S.3 (ratio 14142135623730951 (10 ^ 16) <ᶠ units binary64 false g 1022) (units binary64 false g 1022) (ln_of_value x n h p ∙ ln_of_parts n g q S (sym w.1.1.1))
  where
    go : (q : ℕ) → 1022 ≤ q → q ≤ 3119 → (high : Bool) (M : Float)
        → ln x ≡ (let N = cond high (M /ᶠ of_whole 2) M in ln_of (cond high (pos q -ℤ pos 2096 +ℤ pos 1) (pos q -ℤ pos 2096)) ((N -ᶠ of_whole 1) /ᶠ (N +ᶠ of_whole 1)))
        → Step x
    go q l u true M is = step x (q + 1) _ (is ∙ ap (λ (z : ℤ). ln_of z ((M /ᶠ of_whole 2 -ᶠ of_whole 1) /ᶠ (M /ᶠ of_whole 2 +ᶠ of_whole 1))) (sym (one_more q))) (omega arith) (omega arith)
    go q l u false M is = step x q _ is l (omega arith)

-- ---- an exponent of 0
-- +0 behind a value that is not a zero
some_plus_zero : (s : Bool) (b c : ℕ) → 0 < b → sum binary64 s b false 0 c ≡ round binary64 s b c
unfolding sum
some_plus_zero true b c h = rw (le-ltb b 0 (zero-le), lt-ltb 0 b h, sub-zero b)
some_plus_zero false b c h = rw (add-zero b)

plus_zero_some : (s : Bool) (m : ℕ) (e : ℤ) → T (fits binary64 (fin s (suc m) e)) → fin s (suc m) e +ᶠ +0 ≡ fin s (suc m) e
unfolding add
plus_zero_some s m e f =
    rw (mul-one (suc m * up e), zero-mul (down e), mul-one (down e))
    (some_plus_zero s (suc m * up e) (down e) (mul-pos (zero-lt-suc m) (up_pos e)) ∙ round_own s (suc m) e f)

-- two zeros about a value are one in front of it
zeros_about : (t : Float) → T (fits binary64 t) → +0 +ᶠ (t +ᶠ +0) ≡ +0 +ᶠ t
zeros_about nan f = unfold add in refl
zeros_about (inf s) f = unfold add in refl
zeros_about (fin s (suc m) e) f = ap (λ (z : Float). +0 +ᶠ z) (plus_zero_some s m e f)
zeros_about (fin true zero e) f = rw (only_zero true e f) (unfold add in refl)
zeros_about (fin false zero e) f = rw (only_zero false e f) (unfold add in refl)

no_high : of_whole 0 *ᶠ ln_two_high ≡ +0
unfolding mul of_int ratio
no_high = refl

no_low : of_whole 0 *ᶠ ln_two_low ≡ +0
unfolding mul of_int ratio
no_low = refl

no_literal : of_whole 0 *ᶠ ratio 6931471805599453 (10 ^ 16) ≡ +0
unfolding mul of_int ratio
no_literal = refl

-- the result is what 0·0.6931471805599453 + (2·s)·P is
pub same_at_zero : (s : Float) → ln_of (pos 0) s ≡ of_whole 0 *ᶠ ratio 6931471805599453 (10 ^ 16) +ᶠ of_whole 2 *ᶠ s *ᶠ series 10 (s *ᶠ s) (of_whole 1 /ᶠ of_whole 21)
unfolding ln_of
same_at_zero s =
    let t = of_whole 2 *ᶠ s *ᶠ series 10 (s *ᶠ s) (of_whole 1 /ᶠ of_whole 21) in
    ap₂ (λ (x y : Float). x +ᶠ (t +ᶠ y)) no_high no_low
    ∙ zeros_about t (mul-fits binary64 (of_whole 2 *ᶠ s) (series 10 (s *ᶠ s) (of_whole 1 /ᶠ of_whole 21)))
    ∙ ap (λ (x : Float). x +ᶠ t) (sym no_literal)

-- ---- the logarithm of 1
pub ln_one : ln (of_whole 1) ≡ +0
unfolding ln ln_scaled ln_of series ratio add sub mul div lt of_int size
ln_one = refl
