-- The digits of a value that the format holds: a count of the smallest value is q * 2 ^ j with a q of at most 53 digits, and where it is above zero, m * 2 ^ p with an m of just 53. Assumes nothing.
use Rattle.std.proofs.Common.{◌≡◌, ℕ, zero, suc, ◌+◌, ◌-◌, ◌*◌, ◌/◌, ◌%◌, ◌^◌, ◌<◌, ◌≤◌, Bool, false, ◌&&◌, T, eqb, ltb, leb, ℤ, pos, negsuc, sym, refl, ap, ◌∙◌, subst, inl, inr, le_trans, le_of_eq, lt_of_lt_of_le, le_of_suc-le-suc, lt_irrefl, mul-le-mul_right, mul_assoc, eq-zero-or-pos, mul-lt-mul_of_pos_right, mul-pos, lt_of_not-le, zero-mul, mul-one, not-le_of_lt, arith, ltb→lt, leb→le, pow_pos, pow_mono, pow-add}
use native.Mathlib.Nat.{eq_of_mul-eq-mul_right}
use native.Mathlib.Decide.{dec_le}
use lib.Pow.{pow-lt}
use lib.Ieee.{Float, nan, inf, fin, binary64, up, down, size, fits, to_bits}
use lib.Ieee.Digits.{size-lt, size-le, size_reaches}
use lib.Ieee.Fits.{down_pos, and_l, and_r}
use lib.Ieee.Exact.{HasValue}
use lib.Ieee.Positive.{positive_of_value}
use Rattle.elementary.specs.Inner.Parts.{Scaled, count_of}
use Rattle.elementary.proofs.parts.Values.{Pattern, pattern_of, count_low, count_high}
use Rattle.elementary.proofs.parts.Shifts.{shifted, high_scaled, high_root, sig, exp}

same_count : (x : Float) (a b : ℕ) → HasValue x false a (2 ^ 1074) → HasValue x false b (2 ^ 1074) → a ≡ b
same_count nan a b h g = absurd h
same_count (inf s) a b h g = absurd h
same_count (fin s m e) a b h g = eq_of_mul-eq-mul_right (down e) (down_pos e) a b (sym h.1 ∙ g.1)

-- a value of the format is q * 2 ^ j units, with a q of at most 53 digits
cancel : (m c i w l : ℕ) → i ≤ l → w ≡ 2 ^ l → m * 1 * w ≡ c * 2 ^ i → c ≡ m * 2 ^ (l - i)
cancel m c i w l h ew e =
    let z : l ≡ l - i + i = omega arith in
    sym (eq_of_mul-eq-mul_right (2 ^ i) (pow_pos i) (m * 2 ^ (l - i)) c
    (mul_assoc m (2 ^ (l - i)) (2 ^ i) ∙ ap (λ (y : ℕ). m * y) (sym (pow-add 2 (l - i) i) ∙ ap (λ (y : ℕ). 2 ^ y) (sym z) ∙ sym ew) ∙ ap (λ (y : ℕ). y * w) (sym (mul-one m)) ∙ e))

held : (s : Bool) (m : ℕ) (e : ℤ) → T (fits binary64 (fin s (suc m) e)) → (suc m < 2 ^ 53) × (down e ≤ 2 ^ 1074)
unfolding fits
held s m e t =
    let a : Bool = eqb (suc m % 2) 1 in
    let b : Bool = ltb (suc m) (2 ^ 53) in
    let c : Bool = leb (down e) (2 ^ 1074) in
    let d : Bool = ltb (suc m * up e) (2 ^ 1024 * down e) in
    let u : T (a && b && c) = and_l (a && b && c) d t in
    (ltb→lt (suc m) (2 ^ 53) (and_r a b (and_l (a && b) c u)), leb→le (down e) (2 ^ 1074) (and_r (a && b) c u))

pub digits : (y : Float) (c : ℕ) → T (fits binary64 y) → HasValue y false c (2 ^ 1074) → (q : ℕ) × ((j : ℕ) × ((q < 2 ^ 53) × (c ≡ q * 2 ^ j)))
digits nan c f h = absurd h
digits (inf s) c f h = absurd h
digits (fin s zero e) c f h = elim (eq-zero-or-pos c) [
  | inl z ↦ (0, (0, (pow_pos 53, z)))
  | inr p ↦ absurd (lt_irrefl 0 (subst (λ (z : ℕ). 0 < z) (sym h.1 ∙ none (up e) (2 ^ 1074)) (mul-pos p (down_pos e))))
]
  where
    none : (u w : ℕ) → 0 * u * w ≡ 0
    none u w = ap (λ (z : ℕ). z * w) (zero-mul u) ∙ zero-mul w
digits (fin s (suc m) (pos i)) c f h =
    (suc m, (i + 1074, ((held s m (pos i) f).0, sym (mul-one c) ∙ sym h.1 ∙ mul_assoc (suc m) (2 ^ i) (2 ^ 1074) ∙ ap (λ (z : ℕ). suc m * z) (sym (pow-add 2 i 1074)))))
digits (fin s (suc m) (negsuc i)) c f h =
    let l : 2 ^ suc i ≤ 2 ^ 1074 = (held s m (negsuc i) f).1 in
    let r : suc i ≤ 1074 = le_of_suc-le-suc (lt_of_not-le (λ (k : suc 1074 ≤ suc i). not-le_of_lt (pow-lt {i = 1074} {j = suc i} k) l)) in
    (suc m, (1074 - suc i, ((held s m (negsuc i) f).0, cancel (suc m) c (suc i) (2 ^ 1074) 1074 r refl h.1)))

-- `n` units, with `n` above zero, as an m of 53 digits and a power of two
pub scaled_of : (x : Float) (n : ℕ) → T (fits binary64 x) → HasValue x false n (2 ^ 1074) → 0 < n → (m : ℕ) × ((p : ℕ) × (Scaled m p × (n * 2 ^ 1074 ≡ m * 2 ^ p)))
scaled_of x n f h p = go (dec_le (2 ^ 52) b)
  where
    b : ℕ
    b = to_bits binary64 x

    pat : Pattern x b
    pat = pattern_of x f (positive_of_value x n (2 ^ 1074) h p)

    go : Dec (2 ^ 52 ≤ b) → (m : ℕ) × ((p : ℕ) × (Scaled m p × (n * 2 ^ 1074 ≡ m * 2 ^ p)))
    go (yes l) =
        let e : n ≡ sig b * 2 ^ (b / 2 ^ 52 - 1) = same_count x n (count_of b) h pat.count ∙ count_high b l in
        (sig b, (exp b, (high_scaled b l pat.under, ap (λ (z : ℕ). z * 2 ^ 1074) e ∙ high_root b l)))
    go (no t) =
        let u : b < 2 ^ 52 = lt_of_not-le t in
        let e : n ≡ b = same_count x n (count_of b) h pat.count ∙ count_low b u in
        let q : 0 < b = pat.some in
        let s = size b in
        let s₁ : s ≤ 52 = size-le b 52 u in
        let s₀ : 0 < s = lt_of_not-le (λ (k : s ≤ 0). not-le_of_lt (lt_of_lt_of_le (size-lt b) (pow_mono k)) q) in
        let j = 53 - s in
        let w₁ : s - 1 + j ≡ 52 = omega (arith, s₀, s₁) in
        let w₂ : s + j ≡ 53 = omega (arith, s₁) in
        let m = b * 2 ^ j in
        let l : 2 ^ 52 ≤ m = le_trans (le_of_eq (ap (λ (z : ℕ). 2 ^ z) (sym w₁) ∙ pow-add 2 (s - 1) j)) (mul-le-mul_right (2 ^ j) (size_reaches b (s - 1) (omega (arith, s₀)))) in
        let g : m < 2 ^ 53 = lt_of_lt_of_le (mul-lt-mul_of_pos_right (size-lt b) (pow_pos j)) (le_of_eq (sym (pow-add 2 s j) ∙ ap (λ (z : ℕ). 2 ^ z) w₂)) in
        (m, (1074 - j, ((l, g, omega (arith, s₀), omega arith), ap (λ (z : ℕ). z * 2 ^ 1074) e ∙ sym (shifted b m j refl (omega arith)))))
