-- How a value compares with +0: above it is `positive` or the infinity, equal to it is a zero of either sign, and anything else is NaN or negative. Assumes nothing.
use mathlib.Core.Path.{◌≡◌, refl, sym, ◌∙◌}
use mathlib.Core.Bool.{Bool, true, false, not, ◌&&◌, true≢false, false≢true}
use mathlib.Core.Logic.{◌⊎◌, inl, inr}
use Prim.Native.Nat.{ℕ, zero, suc, ◌+◌, ◌*◌, ◌<◌}
use native.Mathlib.Nat.{zero-mul, mul-one, mul-pos, zero-lt-suc}
use native.Mathlib.Omega.{arith}
use borrow.Author.Tests.{eq-eqb, ne_eqb, lt-ltb, le-ltb}
use lib.Dec.{T, ltb, eqb, lt→ltb}
use lib.IntN.{ℤ}
use lib.Ieee.{Float, nan, inf, fin, binary64, up, down, div, of_bits, lt, eq}
use lib.Ieee.Bits.{is_true}
use lib.Ieee.Fits.{up_pos, and_l, and_r}
use lib.Ieee.Positive.{positive}
use Rattle.floats.specs.Numbers.{+0}
use Rattle.floats.specs.Finite.{finite}

-- ---- the two sides of the comparison: +0 is 0 * 1 over 1
nothing : (d : ℕ) → 0 * 1 * d ≡ 0
nothing d = zero-mul d

no_size : (u : ℕ) → 0 * u * 1 ≡ 0
no_size u = mul-one (0 * u) ∙ zero-mul u

some_size : (m : ℕ) (e : ℤ) → 0 < suc m * up e * 1
some_size m e = rw (mul-one (suc m * up e)) (mul-pos (zero-lt-suc m) (up_pos e))

-- tests of the sizes `a` and `b`, from which of them are 0
under_nothing : (a b : ℕ) → b ≡ 0 → ltb a b ≡ false
under_nothing a b e = le-ltb a b (omega arith)

over_nothing : (a b : ℕ) → a ≡ 0 → 0 < b → ltb a b ≡ true
over_nothing a b e h = lt-ltb a b (omega arith)

both_nothing : (a b : ℕ) → a ≡ 0 → b ≡ 0 → ltb 0 (a + b) ≡ false
both_nothing a b e f = le-ltb 0 (a + b) (omega arith)

one_some : (a b : ℕ) → 0 < a → ltb 0 (a + b) ≡ true
one_some a b h = lt-ltb 0 (a + b) (omega arith)

apart : (a b : ℕ) → 0 < a → b ≡ 0 → eqb a b ≡ false
apart a b h z = ne_eqb a b (λ e. differ e)
  where
    differ : a ≡ b → ⊥
    differ e = omega arith

-- ---- a number that is not zero
pub some_below : (s : Bool) (m : ℕ) (e : ℤ) → lt (fin s (suc m) e) +0 ≡ s
unfolding lt
some_below false m e = under_nothing (suc m * up e * 1) (0 * 1 * down e) (nothing (down e))
some_below true m e = one_some (suc m * up e * 1) (0 * 1 * down e) (some_size m e)

pub some_above : (s : Bool) (m : ℕ) (e : ℤ) → lt +0 (fin s (suc m) e) ≡ not s
unfolding lt
some_above false m e = over_nothing (0 * 1 * down e) (suc m * up e * 1) (nothing (down e)) (some_size m e)
some_above true m e = refl

pub some_differs : (s : Bool) (m : ℕ) (e : ℤ) → eq (fin s (suc m) e) +0 ≡ false
unfolding eq
some_differs s m e = rw (apart (suc m * up e * 1) (0 * 1 * down e) (some_size m e) (nothing (down e)))

-- ---- a zero of either sign
pub zero_not_below : (s : Bool) (e : ℤ) → lt (fin s zero e) +0 ≡ false
unfolding lt
zero_not_below false e = under_nothing (0 * up e * 1) (0 * 1 * down e) (nothing (down e))
zero_not_below true e = both_nothing (0 * up e * 1) (0 * 1 * down e) (no_size (up e)) (nothing (down e))

pub zero_not_above : (s : Bool) (e : ℤ) → lt +0 (fin s zero e) ≡ false
unfolding lt
zero_not_above false e = under_nothing (0 * 1 * down e) (0 * up e * 1) (no_size (up e))
zero_not_above true e = refl

pub zero_equals : (s : Bool) (e : ℤ) → eq (fin s zero e) +0 ≡ true
unfolding eq
zero_equals true e = rw (eq-eqb _ _ (no_size (up e) ∙ sym (nothing (down e))), eq-eqb _ _ (no_size (up e)))
zero_equals false e = rw (eq-eqb _ _ (no_size (up e) ∙ sym (nothing (down e))))

-- ---- what a comparison says of the value
pub above_zero : (x : Float) → lt +0 x ≡ true → T (positive x) ⊎ (x ≡ inf false)
above_zero nan h = absurd (false≢true (unfold lt in h))
above_zero (inf true) h = absurd (false≢true (unfold lt in h))
above_zero (inf false) h = inr refl
above_zero (fin true (suc m) e) h = absurd (false≢true (sym (some_above true m e) ∙ h))
above_zero (fin false (suc m) e) h = inl (lt→ltb 0 (suc m) (zero-lt-suc m))
above_zero (fin s zero e) h = absurd (false≢true (sym (zero_not_above s e) ∙ h))

-- finite and above 0
pub finite_above : (x : Float) → T (finite x && lt +0 x) → T (positive x)
finite_above x h = elim (above_zero x (is_true (lt +0 x) (and_r (finite x) (lt +0 x) h))) [ inl p ↦ p | inr e ↦ absurd (rw e at (and_l (finite x) (lt +0 x) h)) ]

pub equal_to_zero : (x : Float) → eq x +0 ≡ true → (s : Bool) × ((e : ℤ) × (x ≡ fin s zero e))
equal_to_zero nan h = absurd (false≢true (unfold eq in h))
equal_to_zero (inf s) h = absurd (false≢true (unfold eq in h))
equal_to_zero (fin s (suc m) e) h = absurd (false≢true (sym (some_differs s m e) ∙ h))
equal_to_zero (fin s zero e) h = (s, (e, refl))

-- NaN, the negative infinity, or a negative number
pub neither : (x : Float) → lt +0 x ≡ false → eq x +0 ≡ false → (x ≡ nan) ⊎ ((x ≡ inf true) ⊎ ((m : ℕ) × ((e : ℤ) × (x ≡ fin true (suc m) e))))
neither nan h k = inl refl
neither (inf true) h k = inr (inl refl)
neither (inf false) h k = absurd (true≢false (unfold lt in h))
neither (fin true (suc m) e) h k = inr (inr (m, (e, refl)))
neither (fin false (suc m) e) h k = absurd (true≢false (sym (some_above false m e) ∙ h))
neither (fin s zero e) h k = absurd (true≢false (sym (zero_equals s e) ∙ k))

-- ---- a zero divided by a zero
pub zero_by_zero : div binary64 (of_bits binary64 0) (of_bits binary64 0) ≡ nan
unfolding div of_bits
zero_by_zero = refl
