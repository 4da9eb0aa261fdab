-- A sum less an allowance above 0 is no negative zero, so that the larger of it and 0, which is no NaN, is found by one strict test; and what is above h is what is not at most h. Assumes nothing.
use mathlib.Core.Path.{◌≡◌, refl, sym, ap, ◌∙◌}
use Prim.Native.Nat.{zero, suc}
use mathlib.Core.Bool.{Bool, true, false, not, cond, true≢false, false≢true}
use lib.Dec.{T}
use lib.Ieee.{Float, nan, inf, fin, binary64, neg, sub, lt, ne, fits, is_nan}
use lib.Ieee.Fits.{neg-fits, sub-fits}
use Rattle.floats.specs.Numbers.{◌-ᶠ◌, ◌<ᶠ◌, ◌≤ᶠ◌, +0}
use Rattle.floats.specs.Finite.{abs}
use Rattle.floats.specs.MaxMin.{larger}
use Rattle.floats.proofs.MinusZero.{minus_zero, add_plain_second}
use Rattle.floats.proofs.Order.Extremes.{max_first_nan, max_second, max_first}
use Rattle.floats.proofs.Order.Laws.{number, le_right, lt→le, not-lt→le, lt_not_le}
use Rattle.floats.proofs.Order.Magnitude.{abs_zero}
use Rattle.floats.proofs.Order.Zero.{some_below, some_above, zero_not_below, zero_not_above, zero_equals}

-- ---- less an allowance above 0
above_not_zero : (k : Float) → +0 <ᶠ k ≡ true → minus_zero (neg k) ≡ false
unfolding neg
above_not_zero nan h = refl
above_not_zero (inf s) h = refl
above_not_zero (fin s zero d) h = absurd (false≢true (sym (zero_not_above s d) ∙ h))
above_not_zero (fin s (suc n) d) h = refl

less_no_minus_zero : (y k : Float) → T (fits binary64 y) → T (fits binary64 k) → +0 <ᶠ k ≡ true → minus_zero (y -ᶠ k) ≡ false
unfolding sub
less_no_minus_zero y k f g h = add_plain_second y (neg k) f (neg-fits binary64 k g) (above_not_zero k h)

-- ---- the larger of a value and 0
-- by a strict test, where the value is no negative zero
strict_max : (z : Float) → T (fits binary64 z) → minus_zero z ≡ false → cond (+0 <ᶠ z) z +0 ≡ larger z +0
unfolding abs
strict_max nan f h = rw (max_first_nan +0) (unfold lt in refl)
strict_max (inf true) f h = unfold lt larger in refl
strict_max (inf false) f h = unfold lt larger ne in refl
strict_max (fin true zero e) f h = absurd (true≢false h)
strict_max (fin false zero e) f h = rw (zero_not_above false e) (abs_zero (fin false zero e) f (zero_equals false e) ∙ sym (max_first (fin false zero e) +0 tt (zero_not_below false e)))
strict_max (fin true (suc m) e) f h = rw (some_above true m e) (sym (max_second (fin true (suc m) e) +0 (some_below true m e)))
strict_max (fin false (suc m) e) f h = rw (some_above false m e) (sym (max_first (fin false (suc m) e) +0 tt (some_below false m e)))

pub strict_less_max : (y k : Float) → T (fits binary64 y) → T (fits binary64 k) → +0 <ᶠ k ≡ true → cond (+0 <ᶠ y -ᶠ k) (y -ᶠ k) +0 ≡ larger (y -ᶠ k) +0
strict_less_max y k f g h = strict_max (y -ᶠ k) (sub-fits binary64 y k) (less_no_minus_zero y k f g h)

-- it is no NaN
chosen : (a b : Bool) (z : Float) → is_nan z ≡ false → is_nan (cond a +0 (cond b +0 z)) ≡ false
unfolding is_nan
chosen true b z e = refl
chosen false true z e = refl
chosen false false z e = e

pub max_number : (z : Float) → is_nan (larger z +0) ≡ false
unfolding larger is_nan
max_number nan = ap is_nan (max_first_nan +0)
max_number (inf s) = chosen (inf s <ᶠ +0) (ne (inf s) (inf s)) (inf s) refl
max_number (fin s m e) = chosen (fin s m e <ᶠ +0) (ne (fin s m e) (fin s m e)) (fin s m e) refl

-- ---- above h: not at most h
numbered : (s : Float) → is_nan s ≡ false → T (number s)
unfolding is_nan
numbered nan e = absurd (true≢false e)
numbered (inf s) e = tt
numbered (fin s m e) q = tt

pub not_at_most : (h s : Float) → +0 <ᶠ h ≡ true → is_nan s ≡ false → not (s ≤ᶠ h) ≡ h <ᶠ s
not_at_most h s p n = go (s ≤ᶠ h) (h <ᶠ s) (λ l t. lt_not_le h s t l) (not-lt→le h s (le_right +0 h (lt→le +0 h (rw p tt))) (numbered s n))
  where
    go : (a b : Bool) → (T a → T b → ⊥) → (T (not b) → T a) → not a ≡ b
    go true true f g = absurd (f tt tt)
    go true false f g = refl
    go false true f g = refl
    go false false f g = absurd (g tt)
