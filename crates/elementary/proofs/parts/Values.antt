-- Between bit patterns, values and counts of binary64's smallest value, 2 ^ -1074. Assumes nothing.
use Rattle.std.proofs.Common.{◌≡◌, ℕ, zero, suc, ◌+◌, ◌-◌, ◌*◌, ◌/◌, ◌%◌, ◌^◌, ◌<◌, ◌≤◌, Bool, true, false, cond, T, eqb, ltb, leb, ℤ, sym, refl, ap, ◌∙◌, subst, true≢false, le_trans, le_of_eq, le_refl, lt_of_lt_of_le, lt_of_le_of_lt, lt_irrefl, mul-le-mul_right, mod-eq_of_lt, add_comm, mul-lt-mul_of_pos_right, mul-pos, lt_of_not-le, zero-add, zero-mul, mul-one, not-le_of_lt, mul-div_cancel, arith, lit<, ltb→lt, pow_pos, pow_mono, pow-add, le-leb, leb-false}
use lib.Arith.{lt_of_le-ne}
use native.Mathlib.Decide.{dec_le}
use borrow.Author.Tests.{lt-leb, eqb-false}
use lib.Pow.{pow-lt}
use lib.Ieee.{Float, nan, inf, fin, binary64, up, down, size, odd, units, fits, is_nan, nan_bits, of_fields, of_bits, to_bits}
use lib.Ieee.Digits.{size-lt, size-le}
use lib.Ieee.Fits.{odd-fits, down_pos}
use lib.Ieee.Bits.{of_bits-to_bits, nan_bits_is}
use lib.Ieee.Exact.{HasValue, odd_sign, units_val}
use lib.Ieee.Positive.{positive, value_pos}
use Rattle.floats.specs.Numbers.{smallest}
use Rattle.elementary.specs.Inner.Parts.{count_of}

-- ---- the number of binary digits, from the powers of two on either side
pub size_is : (r j : ℕ) → 2 ^ j ≤ r → r < 2 ^ suc j → size r ≡ suc j
size_is r j l h =
    let a : size r ≤ suc j = size-le r (suc j) h in
    let b : j < size r = lt_of_not-le (λ (g : size r ≤ j). not-le_of_lt (lt_of_lt_of_le (size-lt r) (pow_mono g)) l) in
    omega arith

-- ---- a value that is n of the smallest values

count_of_lem : (m : ℕ) (u d n : ℕ) → 0 < d → m * u * 2 ^ 1074 ≡ n * d → m * u * 2 ^ 1074 / d ≡ n
count_of_lem m u d n p h = ap (λ (z : ℕ). z / d) h ∙ mul-div_cancel n p

no_zero : (d n u w : ℕ) → 0 < n → 0 < d → 0 * u * w ≡ n * d → ⊥
no_zero d n u w p q h =
    let a : 0 * u * w ≡ 0 = ap (λ (z : ℕ). z * w) (zero-mul u) ∙ zero-mul w in
    lt_irrefl 0 (subst (λ (z : ℕ). 0 < z) (sym h ∙ a) (mul-pos p q))

-- `x` is written with an m above zero, and `smallest` counts `n`
pub written : (x : Float) (n : ℕ) → HasValue x false n (2 ^ 1074) → 0 < n → (m : ℕ) × ((e : ℤ) × ((x ≡ fin false (suc m) e) × (smallest (suc m) e ≡ n)))
written nan n h p = absurd h
written (inf s) n h p = absurd h
written (fin true m e) n h p = absurd (true≢false h.0)
written (fin false zero e) n h p = absurd (no_zero (down e) n (up e) (2 ^ 1074) p (down_pos e) h.1)
written (fin false (suc m) e) n h p = (m, (e, (refl, count_of_lem (suc m) (up e) (down e) n (down_pos e) h.1)))

bits_of_value : (v : Float) (n : ℕ) → HasValue v false n (2 ^ 1074) → to_bits binary64 v ≡ (size n - 53) * 2 ^ 52 + n / 2 ^ (size n - 53)
unfolding to_bits
bits_of_value nan n h = absurd h
bits_of_value (inf s) n h = absurd h
bits_of_value (fin true m e) n h = absurd (true≢false h.0)
bits_of_value (fin false m e) n h =
    ap (λ (z : ℕ). 0 + (size z - 53) * 2 ^ 52 + z / 2 ^ (size z - 53)) (count_of_lem m (up e) (down e) n (down_pos e) h.1)
    ∙ ap (λ (z : ℕ). z + n / 2 ^ (size n - 53)) (zero-add ((size n - 53) * 2 ^ 52))

-- two values that the format holds are the same where they are the same number of smallest values
pub same_value : (x y : Float) (n : ℕ) → T (fits binary64 x) → T (fits binary64 y) → HasValue x false n (2 ^ 1074) → HasValue y false n (2 ^ 1074) → x ≡ y
same_value x y n f g h k =
    sym (of_bits-to_bits binary64 x f) ∙ ap (of_bits binary64) (bits_of_value x n h ∙ sym (bits_of_value y n k)) ∙ of_bits-to_bits binary64 y g

value_is_no_nan : (v : Float) (n c : ℕ) → HasValue v false n c → is_nan v ≡ false
unfolding is_nan
value_is_no_nan nan n c h = absurd h
value_is_no_nan (inf s) n c h = refl
value_is_no_nan (fin s m e) n c h = refl

-- ---- the bit pattern of g * 2 ^ k smallest values, for a g of 53 digits, or 2 ^ 53

module _ (g k : ℕ) (lo : 2 ^ 52 ≤ g) (hi : g ≤ 2 ^ 53) (small : k ≤ 2044) where
  pub below : g * 2 ^ k < 2 ^ 2098
  below =
      lt_of_le_of_lt (mul-le-mul_right (2 ^ k) hi)
      (lt_of_le_of_lt (le_of_eq (sym (pow-add 2 53 k))) (pow-lt {i = 53 + k} {j = 2098} (omega arith)))

  pub value : HasValue (units binary64 false g k) false (g * 2 ^ k) (2 ^ 1074)
  value = units_val binary64 false g k below

  pub unit_fits : T (fits binary64 (units binary64 false g k))
  unfolding units
  unit_fits = go (ltb (g * 2 ^ k) (2 ^ 2098)) (ltb→lt (g * 2 ^ k) (2 ^ 2098))
    where
      go : (b : Bool) → (T b → g * 2 ^ k < 2 ^ 2098) → T (fits binary64 (cond b (odd 54 false g k 1074) (inf false)))
      go true h = odd-fits binary64 54 false g k (omega arith) hi (h tt)
      go false h = unfold fits in tt

pattern_at : (g k : ℕ) → 2 ^ 52 ≤ g → g < 2 ^ 53 → (size (g * 2 ^ k) - 53) * 2 ^ 52 + g * 2 ^ k / 2 ^ (size (g * 2 ^ k) - 53) ≡ k * 2 ^ 52 + g
pattern_at g k lo hi =
    let s : size (g * 2 ^ k) ≡ suc (52 + k) =
    size_is (g * 2 ^ k) (52 + k) (le_trans (le_of_eq (pow-add 2 52 k)) (mul-le-mul_right (2 ^ k) lo))
    (lt_of_lt_of_le (mul-lt-mul_of_pos_right hi (pow_pos k)) (le_of_eq (sym (pow-add 2 53 k) ∙ ap (λ (z : ℕ). 2 ^ z) (omega arith)))) in
    let d : size (g * 2 ^ k) - 53 ≡ k = omega arith in
    ap (λ (z : ℕ). z * 2 ^ 52 + g * 2 ^ k / 2 ^ z) d ∙ ap (λ (z : ℕ). k * 2 ^ 52 + z) (mul-div_cancel g (pow_pos k))

-- 2 ^ 53 * 2 ^ k is 2 ^ 52 * 2 ^ (k + 1)
carried : (k : ℕ) → 2 ^ 53 * 2 ^ k ≡ 2 ^ 52 * 2 ^ suc k
carried k = sym (pow-add 2 53 k) ∙ ap (λ (z : ℕ). 2 ^ z) (omega arith) ∙ pow-add 2 52 (suc k)

pattern : (g k : ℕ) → 2 ^ 52 ≤ g → g ≤ 2 ^ 53 → (size (g * 2 ^ k) - 53) * 2 ^ 52 + g * 2 ^ k / 2 ^ (size (g * 2 ^ k) - 53) ≡ k * 2 ^ 52 + g
pattern g k lo hi = go (dec_le (2 ^ 53) g)
  where
    go : Dec (2 ^ 53 ≤ g) → (size (g * 2 ^ k) - 53) * 2 ^ 52 + g * 2 ^ k / 2 ^ (size (g * 2 ^ k) - 53) ≡ k * 2 ^ 52 + g
    go (no f) = pattern_at g k lo (omega (arith, f))
    go (yes l) =
        let e : g ≡ 2 ^ 53 = omega arith in
        let p : g * 2 ^ k ≡ 2 ^ 52 * 2 ^ suc k = ap (λ (z : ℕ). z * 2 ^ k) e ∙ carried k in
        ap (λ (z : ℕ). (size z - 53) * 2 ^ 52 + z / 2 ^ (size z - 53)) p ∙ pattern_at (2 ^ 52) (suc k) (le_refl (2 ^ 52)) (lit< tt) ∙ omega arith

pub placed_is : (g k : ℕ) → 2 ^ 52 ≤ g → g ≤ 2 ^ 53 → k ≤ 2044 → of_bits binary64 (k * 2 ^ 52 + g) ≡ units binary64 false g k
placed_is g k lo hi small =
    let v = units binary64 false g k in
    ap (of_bits binary64) (sym (bits_of_value v (g * 2 ^ k) (value g k lo hi small) ∙ pattern g k lo hi)) ∙ of_bits-to_bits binary64 v (unit_fits g k lo hi small)

pub placed_no_nan : (g k : ℕ) → 2 ^ 52 ≤ g → g ≤ 2 ^ 53 → k ≤ 2044 → nan_bits binary64 (k * 2 ^ 52 + g) ≡ false
placed_no_nan g k lo hi small =
    nan_bits_is binary64 (k * 2 ^ 52 + g) ∙ ap is_nan (placed_is g k lo hi small) ∙ value_is_no_nan (units binary64 false g k) (g * 2 ^ k) (2 ^ 1074) (value g k lo hi small)

-- ---- the value of a bit pattern, by its fields

sign_of : (x : Float) (s : Bool) (a c : ℕ) → T (positive x) → HasValue x s a c → s ≡ false
sign_of nan s a c p h = absurd p
sign_of (inf t) s a c p h = absurd p
sign_of (fin true m e) s a c p h = absurd p
sign_of (fin false m e) s a c p h = sym h.0

low_field : (s : Bool) (t : ℕ) → T (positive (of_fields binary64 s zero t)) → (s ≡ false) × HasValue (of_fields binary64 s zero t) false t (2 ^ 1074)
unfolding of_fields
low_field s t p =
    let v = odd_sign 53 s t 0 1074 in
    let e = sign_of (odd 53 s t 0 1074) s (t * 2 ^ 0) (2 ^ 1074) p v in
    (e, subst (λ (z : ℕ). HasValue (odd 53 s t 0 1074) false z (2 ^ 1074)) (mul-one t) (subst (λ (b : Bool). HasValue (odd 53 s t 0 1074) b (t * 2 ^ 0) (2 ^ 1074)) e v))

high_field : (s : Bool) (x t : ℕ) → T (positive (of_fields binary64 s (suc x) t))
    → (s ≡ false) × (suc x ≡ 2047 → ⊥) × HasValue (of_fields binary64 s (suc x) t) false ((2 ^ 52 + t) * 2 ^ x) (2 ^ 1074)
unfolding of_fields
high_field s x t p = go (eqb (suc x) 2047) refl p
  where
    ends : (b : Bool) → T (positive (cond b (inf s) nan)) → ⊥
    ends true q = q
    ends false q = q

    go : (b : Bool) → eqb (suc x) 2047 ≡ b → T (positive (cond b (cond (eqb t 0) (inf s) nan) (odd 53 s (2 ^ 52 + t) x 1074)))
        → (s ≡ false) × (suc x ≡ 2047 → ⊥) × HasValue (cond b (cond (eqb t 0) (inf s) nan) (odd 53 s (2 ^ 52 + t) x 1074)) false ((2 ^ 52 + t) * 2 ^ x) (2 ^ 1074)
    go true e q = absurd (ends (eqb t 0) q)
    go false e q =
        let v = odd_sign 53 s (2 ^ 52 + t) x 1074 in
        let f = sign_of (odd 53 s (2 ^ 52 + t) x 1074) s ((2 ^ 52 + t) * 2 ^ x) (2 ^ 1074) q v in
        (f, eqb-false (suc x) 2047 e, subst (λ (b : Bool). HasValue (odd 53 s (2 ^ 52 + t) x 1074) b ((2 ^ 52 + t) * 2 ^ x) (2 ^ 1074)) f v)

-- ---- the count of a bit pattern

pub count_low : (b : ℕ) → b < 2 ^ 52 → count_of b ≡ b
unfolding count_of
count_low b h = ap (λ (t : Bool). cond t ((b % 2 ^ 52 + 2 ^ 52) * 2 ^ (b / 2 ^ 52 - 1)) b) (lt-leb (2 ^ 52) b h)

pub count_high : (b : ℕ) → 2 ^ 52 ≤ b → count_of b ≡ (b % 2 ^ 52 + 2 ^ 52) * 2 ^ (b / 2 ^ 52 - 1)
unfolding count_of
count_high b h = ap (λ (t : Bool). cond t ((b % 2 ^ 52 + 2 ^ 52) * 2 ^ (b / 2 ^ 52 - 1)) b) (le-leb (2 ^ 52) b h)

-- what the bit pattern `b` says of the value `x`, finite and above zero
pub record Pattern (x : Float) (b : ℕ) : Type 0 where
  pub under : b < 2047 * 2 ^ 52
  pub some : 0 < b
  pub count : HasValue x false (count_of b) (2 ^ 1074)
  pub counted : 0 < count_of b

of_count : (x : Float) (b n : ℕ) → T (positive x) → b < 2047 * 2 ^ 52 → 0 < b → HasValue x false n (2 ^ 1074) → count_of b ≡ n → Pattern x b
of_count x b n p u q v e =
    let w : HasValue x false (count_of b) (2 ^ 1074) = subst (λ (z : ℕ). HasValue x false z (2 ^ 1074)) (sym e) v in
    record { under = u; some = q; count = w; counted = value_pos x (count_of b) (2 ^ 1074) p (pow_pos 1074) w }

by_fields : (x : Float) (b : ℕ) (s : Bool) (y : ℕ) → leb (2 ^ 63) b ≡ s → b % 2 ^ 63 / 2 ^ 52 ≡ y → of_fields binary64 s y (b % 2 ^ 52) ≡ x → T (positive x) → Pattern x b
by_fields x b s zero es ey e p =
    let l = low_field s (b % 2 ^ 52) (subst (λ (z : Float). T (positive z)) (sym e) p) in
    let v : HasValue x false (b % 2 ^ 52) (2 ^ 1074) = subst (λ (z : Float). HasValue z false (b % 2 ^ 52) (2 ^ 1074)) e l.1 in
    let m : b % 2 ^ 63 ≡ b = mod-eq_of_lt (leb-false (2 ^ 63) b (es ∙ l.0)) in
    let t : b < 2 ^ 52 = omega (arith, m, ey) in
    let n : b % 2 ^ 52 ≡ b = mod-eq_of_lt t in
    let q : 0 < b = subst (λ (z : ℕ). 0 < z) n (value_pos x (b % 2 ^ 52) (2 ^ 1074) p (pow_pos 1074) v) in
    of_count x b (b % 2 ^ 52) p (omega arith) q v (count_low b t ∙ sym n)
by_fields x b s (suc y) es ey e p =
    let l = high_field s y (b % 2 ^ 52) (subst (λ (z : Float). T (positive z)) (sym e) p) in
    let v = subst (λ (z : Float). HasValue z false ((2 ^ 52 + b % 2 ^ 52) * 2 ^ y) (2 ^ 1074)) e l.2 in
    let u : b < 2 ^ 63 = leb-false (2 ^ 63) b (es ∙ l.0) in
    let m : b % 2 ^ 63 ≡ b = mod-eq_of_lt u in
    let d : b / 2 ^ 52 ≡ suc y = subst (λ (z : ℕ). z / 2 ^ 52 ≡ suc y) m ey in
    let k : y ≡ b / 2 ^ 52 - 1 = omega (arith, d) in
    let w : (2 ^ 52 + b % 2 ^ 52) * 2 ^ y ≡ (b % 2 ^ 52 + 2 ^ 52) * 2 ^ (b / 2 ^ 52 - 1) =
    ap (λ (z : ℕ). z * 2 ^ y) (add_comm (2 ^ 52) (b % 2 ^ 52)) ∙ ap (λ (z : ℕ). (b % 2 ^ 52 + 2 ^ 52) * 2 ^ z) k in
    let o : suc y < 2047 = lt_of_le-ne (omega (arith, d, u)) l.1 in
    of_count x b ((2 ^ 52 + b % 2 ^ 52) * 2 ^ y) p (omega (arith, d, o)) (omega (arith, d)) v (count_high b (omega (arith, d)) ∙ sym w)

of_bits_is : (b : ℕ) → of_bits binary64 b ≡ of_fields binary64 (leb (2 ^ 63) b) (b % 2 ^ 63 / 2 ^ 52) (b % 2 ^ 52)
unfolding of_bits
of_bits_is b = refl

pub pattern_of : (x : Float) → T (fits binary64 x) → T (positive x) → Pattern x (to_bits binary64 x)
pattern_of x f p =
    let b = to_bits binary64 x in
    by_fields x b (leb (2 ^ 63) b) (b % 2 ^ 63 / 2 ^ 52) refl refl (sym (of_bits_is b) ∙ of_bits-to_bits binary64 x f) p
