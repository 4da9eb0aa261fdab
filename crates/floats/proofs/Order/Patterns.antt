-- Values without a sign stand in the order of their bit patterns. Assumes nothing.
use Prim.Native.Nat.{ℕ, zero, suc, ◌+◌, ◌-◌, ◌*◌, ◌/◌, ◌%◌, ◌^◌, ◌≤◌, ◌<◌}
use mathlib.Core.Path.{◌≡◌, refl, sym, ap, subst, ◌∙◌}
use mathlib.Core.Bool.{Bool, true, false, not, ◌&&◌, false≢true, true≢false}
use mathlib.Core.Logic.{◌⊎◌, inl, inr}
use native.Mathlib.Omega.{arith}
use native.Mathlib.Nat.{le_refl, le_of_lt, lt_of_le_of_lt, mul-le-mul_right, le-div_iff_mul-le, div-one, eq-or-lt_of_le}
use lib.IntN.{ℤ, pos}
use lib.Dec.{T, eqb, leb, ltb, ltb→lt, lit≤}
use lib.Pow.{pow-add, pow_pos, shr_mono}
use lib.Ieee.Nearest.{div_mono}
use borrow.Author.Tests.{ltb-true, ltb-false, lt-ltb, le-ltb, eqb-true, eq-eqb}
use lib.Ieee.Bits.{of_bits-to_bits, to_bits-of_bits, of_bits-fits, nan_bits_is}
use lib.Arith.{lt_of_le-ne}
use Rattle.floats.proofs.Order.Laws.{lt_irreflexive}
use lib.Ieee.Digits.{size-lt, size_reaches, size-le}
use lib.Ieee.Fits.{kept-lt, down_pos, and_r}
use lib.Ieee.{Float, nan, inf, fin, binary64, prec, emax, low, up, down, size, hid, to_bits, of_bits, fits, lt, is_nan, nan_bits}

-- ---- fractions in whole units
-- a fraction that is no larger has no more units
units_rise : (a d b c w : ℕ) → 0 < d → 0 < c → a * c ≤ b * d → a * w / d ≤ b * w / c
units_rise a d b c w p q h = let k : a * c * w ≤ b * d * w = mul-le-mul_right w h in div_mono (a * w) d (b * w) c p q (omega (arith, k))

-- ---- a pattern from units: the digits kept, and how many were dropped
abbrev written : ℕ → ℕ → ℕ → ℕ
written p h n = (size n - p) * h + n / 2 ^ (size n - p)

size_rises : {n m : ℕ} → n ≤ m → size n ≤ size m
size_rises {n} {m} h = size-le n (size m) (lt_of_le_of_lt h (size-lt m))

-- where `n` and `m` have the same number of digits
level : (p h n m : ℕ) → n ≤ m → size n ≡ size m → written p h n ≤ written p h m
level p h n m l e = let d : n / 2 ^ (size m - p) ≤ m / 2 ^ (size m - p) = shr_mono (size m - p) l in rw e (omega (arith, d))

-- where `m` has more digits than `n`, and more than are kept
steeper : (p h n m : ℕ) → 2 ^ p ≡ 2 * h → 1 ≤ p → size n < size m → p < size m → written p h n ≤ written p h m
steeper p h n m e o s l =
    let k = size n - p in
    let j = size m - p in
    let low_part : n / 2 ^ k < 2 ^ p = kept-lt p n in
    let reach : 2 ^ (size m - 1) ≤ m = size_reaches m (size m - 1) (omega (arith, l)) in
    let q : size m - 1 ≡ (p - 1) + j = omega (arith, l, o) in
    let r : 2 ^ (size m - 1) ≡ 2 ^ (p - 1) * 2 ^ j = ap (λ (x : ℕ). 2 ^ x) q ∙ pow-add 2 (p - 1) j in
    let z : p ≡ 1 + (p - 1) = omega (arith, o) in
    let half : 2 ^ p ≡ 2 * 2 ^ (p - 1) = ap (λ (x : ℕ). 2 ^ x) z ∙ pow-add 2 1 (p - 1) in
    let high : 2 ^ (p - 1) ≤ m / 2 ^ j = (le-div_iff_mul-le (pow_pos j)).1 (rw r at reach) in
    let more : k + 1 ≤ j = omega (arith, s, l) in
    let more_h : (k + 1) * h ≤ j * h = mul-le-mul_right h more in
    omega (arith, low_part, high, half, e, more_h)

pub written_rises : (p h n m : ℕ) → 2 ^ p ≡ 2 * h → 1 ≤ p → n ≤ m → written p h n ≤ written p h m
written_rises p h n m e o l = go (eq-or-lt_of_le (size_rises l))
  where
    small : size m ≤ p → size n < size m → written p h n ≤ written p h m
    small s t =
        let a : size n - p ≡ 0 = omega (arith, s, t) in
        let b : size m - p ≡ 0 = omega (arith, s) in
        rw (a, b) (omega (arith, l, div-one n, div-one m))

    by_test : (b : Bool) → (b ≡ false → size m ≤ p) → (b ≡ true → p < size m) → size n < size m → written p h n ≤ written p h m
    by_test false f g q = small (f refl) q
    by_test true f g q = steeper p h n m e o q (g refl)

    go : (size n ≡ size m) ⊎ (size n < size m) → written p h n ≤ written p h m
    go (inl q) = level p h n m l q
    go (inr q) = by_test (ltb p (size m)) (ltb-false p (size m)) (ltb-true p (size m)) q

-- ---- the patterns of values
half_power : (p : ℕ) → 1 ≤ p → 2 ^ p ≡ 2 * 2 ^ (p - 1)
half_power p o = let z : p ≡ 1 + (p - 1) = omega (arith, o) in ap (λ (x : ℕ). 2 ^ x) z ∙ pow-add 2 1 (p - 1)

pattern_rises : (m : ℕ) (e : ℤ) (n : ℕ) (d : ℤ) → m * up e * down d ≤ n * up d * down e → to_bits binary64 (fin false m e) ≤ to_bits binary64 (fin false n d)
unfolding to_bits
pattern_rises m e n d h =
    let a = m * up e * 2 ^ low binary64 / down e in
    let b = n * up d * 2 ^ low binary64 / down d in
    let r = written_rises (prec binary64) (hid binary64) a b (half_power (prec binary64) (lit≤ tt)) (lit≤ tt) (units_rise (m * up e) (down e) (n * up d) (down d) (2 ^ low binary64) (down_pos e) (down_pos d) h) in
    omega (arith, r)

-- a value without a sign, and no NaN
unfoldable pub unsigned : Float → Bool
unsigned nan = false
unsigned (inf s) = not s
unsigned (fin s m e) = not s

-- what the format holds is below 2^1024, whose pattern is that of infinity
nothing : (u w b : ℕ) → 0 * u * 1 ≤ w * 1 * b
nothing u w b = omega arith

under_top : (m : ℕ) (e : ℤ) → T (fits binary64 (fin false m e)) → m * up e * 1 ≤ 2 ^ 1024 * 1 * down e
unfolding fits
under_top zero e h = nothing (up e) (2 ^ 1024) (down e)
under_top (suc m) e h =
    let A = eqb (suc m % 2) 1 in
    let B = ltb (suc m) (2 ^ prec binary64) in
    let C = leb (down e) (2 ^ low binary64) in
    let D = ltb (suc m * up e) (2 ^ suc (emax binary64) * down e) in
    bounded (suc m * up e) (2 ^ 1024) (down e) (ltb→lt (suc m * up e) (2 ^ 1024 * down e) (and_r (A && B && C) D h))
  where
    bounded : (a w b : ℕ) → a < w * b → a * 1 ≤ w * 1 * b
    bounded a w b l = omega (arith, l)

top_pattern : to_bits binary64 (fin false (2 ^ 1024) (pos 0)) ≡ to_bits binary64 (inf false)
unfolding to_bits size
top_pattern = refl

below_infinity : (m : ℕ) (e : ℤ) → T (fits binary64 (fin false m e)) → to_bits binary64 (fin false m e) ≤ to_bits binary64 (inf false)
below_infinity m e h = rw (← top_pattern) (pattern_rises m e (2 ^ 1024) (pos 0) (under_top m e h))

-- ---- the order
patterns_apart : (x y : Float) → T (fits binary64 x) → T (fits binary64 y) → T (lt x y) → to_bits binary64 x ≡ to_bits binary64 y → ⊥
patterns_apart x y h k l e =
    let same : x ≡ y = sym (of_bits-to_bits binary64 x h) ∙ ap (of_bits binary64) e ∙ of_bits-to_bits binary64 y k in
    lt_irreflexive y (subst (λ (z : Float). T (lt z y)) same l)

apart_rises : (m n : ℕ) → m ≤ n → (m ≡ n → ⊥) → m < n
apart_rises m n h k = lt_of_le-ne h k

in_order : (a : Bool) (m n : ℕ) → (T a → m < n) → (a ≡ false → n ≤ m) → a ≡ ltb m n
in_order true m n f g = sym (lt-ltb m n (f tt))
in_order false m n f g = sym (le-ltb m n (g refl))

number_order : (m : ℕ) (e : ℤ) (n : ℕ) (d : ℤ) → T (fits binary64 (fin false m e)) → T (fits binary64 (fin false n d)) → lt (fin false m e) (fin false n d) ≡ ltb (to_bits binary64 (fin false m e)) (to_bits binary64 (fin false n d))
unfolding lt
number_order m e n d h k =
    in_order (ltb (m * up e * down d) (n * up d * down e)) (to_bits binary64 (fin false m e)) (to_bits binary64 (fin false n d))
    (λ l. apart_rises _ _ (pattern_rises m e n d (le_of_lt (ltb→lt (m * up e * down d) (n * up d * down e) l))) (patterns_apart (fin false m e) (fin false n d) h k l))
    (λ l. pattern_rises n d m e (ltb-false (m * up e * down d) (n * up d * down e) l))

-- of values that the format holds, none with a sign
pub pattern_order : (x y : Float) → unsigned x ≡ true → unsigned y ≡ true → T (fits binary64 x) → T (fits binary64 y) → lt x y ≡ ltb (to_bits binary64 x) (to_bits binary64 y)
unfolding unsigned lt
pattern_order nan y a b h k = absurd (false≢true a)
pattern_order (inf true) y a b h k = absurd (false≢true a)
pattern_order (inf false) nan a b h k = absurd (false≢true b)
pattern_order (inf false) (inf true) a b h k = absurd (false≢true b)
pattern_order (inf false) (inf false) a b h k = sym (le-ltb (to_bits binary64 (inf false)) (to_bits binary64 (inf false)) (le_refl _))
pattern_order (inf false) (fin true n d) a b h k = absurd (false≢true b)
pattern_order (inf false) (fin false n d) a b h k = sym (le-ltb (to_bits binary64 (inf false)) (to_bits binary64 (fin false n d)) (below_infinity n d k))
pattern_order (fin true m e) y a b h k = absurd (false≢true a)
pattern_order (fin false m e) nan a b h k = absurd (false≢true b)
pattern_order (fin false m e) (inf true) a b h k = absurd (false≢true b)
pattern_order (fin false m e) (inf false) a b h k = sym (lt-ltb (to_bits binary64 (fin false m e)) (to_bits binary64 (inf false)) (apart_rises _ _ (below_infinity m e h) (patterns_apart (fin false m e) (inf false) h k tt)))
pattern_order (fin false m e) (fin true n d) a b h k = absurd (false≢true b)
pattern_order (fin false m e) (fin false n d) a b h k = number_order m e n d h k

-- and infinity's pattern is the last
pub pattern_most : (x : Float) → unsigned x ≡ true → T (fits binary64 x) → to_bits binary64 x ≤ to_bits binary64 (inf false)
unfolding unsigned
pattern_most nan a h = absurd (false≢true a)
pattern_most (inf true) a h = absurd (false≢true a)
pattern_most (inf false) a h = le_refl _
pattern_most (fin true m e) a h = absurd (false≢true a)
pattern_most (fin false m e) a h = below_infinity m e h

-- ---- values from patterns up to infinity's
signed_high : (x : Float) → unsigned x ≡ false → is_nan x ≡ false → 2 ^ 63 ≤ to_bits binary64 x
unfolding unsigned is_nan to_bits
signed_high nan a b = absurd (true≢false b)
signed_high (inf true) a b = lit≤ tt
signed_high (inf false) a b = absurd (true≢false a)
signed_high (fin true m e) a b = omega arith
signed_high (fin false m e) a b = absurd (true≢false a)

-- with the exponent's field all ones no digit is set
bare_top : (p : ℕ) → p ≤ 0x7ff0_0000_0000_0000 → p % 0x8000_0000_0000_0000 / 0x10_0000_0000_0000 ≡ 2047 → p % 0x10_0000_0000_0000 ≡ 0
bare_top p h e = omega (arith, h, e)

no_nan : (p : ℕ) → p ≤ 0x7ff0_0000_0000_0000 → is_nan (of_bits binary64 p) ≡ false
unfolding nan_bits
no_nan p h = sym (nan_bits_is binary64 p) ∙ fields (eqb (p % 0x8000_0000_0000_0000 / 0x10_0000_0000_0000) 2047) (λ e. bare_top p h (eqb-true (p % 0x8000_0000_0000_0000 / 0x10_0000_0000_0000) 2047 e))
  where
    fields : (b : Bool) → (b ≡ true → p % 0x10_0000_0000_0000 ≡ 0) → (b && not (eqb (p % 0x10_0000_0000_0000) 0)) ≡ false
    fields false f = refl
    fields true f = ap not (eq-eqb (p % 0x10_0000_0000_0000) 0 (f refl))

-- a pattern up to infinity's is that of a value without a sign
pub record Pattern (p : ℕ) : Type 0 where
  pub clear : unsigned (of_bits binary64 p) ≡ true
  pub held : T (fits binary64 (of_bits binary64 p))
  pub number : is_nan (of_bits binary64 p) ≡ false
  pub back : to_bits binary64 (of_bits binary64 p) ≡ p

pub pattern_of : (p : ℕ) → p ≤ 0x7ff0_0000_0000_0000 → Pattern p
pattern_of p h =
    let n = no_nan p h in
    let b : to_bits binary64 (of_bits binary64 p) ≡ p = to_bits-of_bits binary64 p (omega (arith, h)) (subst (λ (x : Bool). T (not x)) (sym n) tt) in
    record { clear = side (unsigned (of_bits binary64 p)) (λ u. signed_high (of_bits binary64 p) u n) b; held = of_bits-fits binary64 p; number = n; back = b }
  where
    side : (u : Bool) → (u ≡ false → 2 ^ 63 ≤ to_bits binary64 (of_bits binary64 p)) → to_bits binary64 (of_bits binary64 p) ≡ p → u ≡ true
    side true f b = refl
    side false f b = absurd (high (to_bits binary64 (of_bits binary64 p)) (f refl) b)
      where
        high : (t : ℕ) → 2 ^ 63 ≤ t → t ≡ p → ⊥
        high t l e = omega (arith, l, e, h)
