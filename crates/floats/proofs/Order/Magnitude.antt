-- What the tests of `finite` and `abs` say, and the law of `finite`. Assumes nothing.
use mathlib.Core.Path.{◌≡◌, refl, sym, ap, ◌∙◌}
use mathlib.Core.Bool.{Bool, true, false, true≢false, false≢true}
use Prim.Native.Nat.{ℕ, zero, suc, ◌^◌, ◌<◌}
use native.Mathlib.Nat.{mul-one, one-mul}
use native.Mathlib.Omega.{arith}
use lib.Dec.{T, eqb→eq}
use lib.IntN.{ℤ, pos, negsuc}
use lib.Pow.{pow-lt}
use lib.Ieee.{Float, nan, inf, fin, binary64, fits, neg, lt, eq}
use Rattle.floats.specs.Numbers.{+0, +∞, -∞}
use Rattle.floats.specs.Finite.{finite, abs}
use Rattle.floats.proofs.Order.Zero.{some_below, zero_not_below, some_differs, zero_equals}

-- ---- the law: finite is exactly what is neither NaN nor an infinity
pub finite_is_neither : (x : Float) → T (finite x) → (x ≡ nan → ⊥) × ((s : Bool) → x ≡ inf s → ⊥)
finite_is_neither x t = (λ e. rw e at t, λ s e. rw e at t)

pub neither_is_finite : (x : Float) → (x ≡ nan → ⊥) → ((s : Bool) → x ≡ inf s → ⊥) → T (finite x)
neither_is_finite nan h k = absurd (h refl)
neither_is_finite (inf s) h k = absurd (k s refl)
neither_is_finite (fin s m e) h k = tt

-- ---- by comparison with the infinities
pub below_infinity : (x : Float) → lt x +∞ ≡ true → lt -∞ x ≡ finite x
unfolding lt
below_infinity nan h = absurd (false≢true h)
below_infinity (inf true) h = refl
below_infinity (inf false) h = absurd (false≢true h)
below_infinity (fin s m e) h = refl

pub not_below_infinity : (x : Float) → lt x +∞ ≡ false → false ≡ finite x
unfolding lt
not_below_infinity nan h = refl
not_below_infinity (inf s) h = refl
not_below_infinity (fin s m e) h = absurd (true≢false h)

-- ---- magnitudes, by comparison with zero
pub abs_below : (x : Float) → lt x +0 ≡ true → neg x ≡ abs x
unfolding neg abs
abs_below nan h = absurd (false≢true (unfold lt in h))
abs_below (inf true) h = refl
abs_below (inf false) h = absurd (false≢true (unfold lt in h))
abs_below (fin true m e) h = refl
abs_below (fin false (suc m) e) h = absurd (false≢true (sym (some_below false m e) ∙ h))
abs_below (fin false zero e) h = absurd (false≢true (sym (zero_not_below false e) ∙ h))

-- a zero that the format holds is written with the exponent 0
zero_exponent : (s : Bool) (e : ℤ) → T (fits binary64 (fin s zero e)) → e ≡ pos 0
unfolding fits
zero_exponent s (pos zero) t = refl
zero_exponent s (pos (suc k)) t = absurd (large (2 ^ suc k) (pow-lt {i = 0} {j = suc k} (omega arith)) (sym (mul-one (2 ^ suc k)) ∙ eqb→eq _ _ t))
  where
    large : (a : ℕ) → 1 < a → a ≡ 1 → ⊥
    large a h e = omega arith
zero_exponent s (negsuc k) t = absurd (large (2 ^ suc k) (pow-lt {i = 0} {j = suc k} (omega arith)) (sym (one-mul (2 ^ suc k)) ∙ eqb→eq _ _ t))
  where
    large : (a : ℕ) → 1 < a → a ≡ 1 → ⊥
    large a h e = omega arith

pub abs_zero : (x : Float) → T (fits binary64 x) → eq x +0 ≡ true → +0 ≡ abs x
unfolding abs
abs_zero nan f h = absurd (false≢true (unfold eq in h))
abs_zero (inf s) f h = absurd (false≢true (unfold eq in h))
abs_zero (fin s (suc m) e) f h = absurd (false≢true (sym (some_differs s m e) ∙ h))
abs_zero (fin s zero e) f h = ap (fin false zero) (sym (zero_exponent s e f))

pub abs_above : (x : Float) → lt x +0 ≡ false → eq x +0 ≡ false → x ≡ abs x
unfolding abs
abs_above nan h k = refl
abs_above (inf true) h k = absurd (true≢false (unfold lt in h))
abs_above (inf false) h k = refl
abs_above (fin false m e) h k = refl
abs_above (fin true (suc m) e) h k = absurd (true≢false (sym (some_below true m e) ∙ h))
abs_above (fin true zero e) h k = absurd (true≢false (sym (zero_equals true e) ∙ k))
