-- Magnitudes that stand level in the order are one value. Assumes nothing.
use Prim.Native.Nat.{ℕ, zero, suc, ◌+◌, ◌-◌, ◌*◌, ◌/◌, ◌^◌}
use mathlib.Core.Path.{◌≡◌, refl, sym, ap, ◌∙◌, subst}
use mathlib.Core.Bool.{Bool, true, false, not, cond, false≢true}
use native.Mathlib.Omega.{arith}
use borrow.Author.Tests.{ltb-false, not-true}
use lib.Dec.{T, ltb}
use lib.IntN.{ℤ, pos}
use lib.Ieee.{Float, nan, inf, fin, Format, binary64, prec, low, hid, top, up, down, size, lt, eq, fits, add, sub, neg, of_bits, to_bits}
use lib.Ieee.Bits.{is_true, of_bits-to_bits}
use lib.Ieee.Fits.{down_pos, neg-fits, sub-fits}
use lib.Ieee.Nearest.{div_same}
use Rattle.floats.specs.Numbers.{◌-ᶠ◌, ◌<ᶠ◌, +0}
use Rattle.floats.specs.Finite.{abs}
use Rattle.floats.proofs.Order.Zero.{some_below, some_above, some_differs, zero_equals}
use Rattle.floats.proofs.Exact.{only_zero, zero_plus}
use Rattle.floats.specs.Ahead.{ahead}
use Rattle.medians.specs.Inner.Ranks.{magnitude}
use Rattle.medians.proofs.OrderLaws.{holds, lt_transitive, ahead_of_nan, ahead_of_number}

-- numbers that are the same count of the smallest value have one pattern
scaled : (a b c d w : ℕ) → a * d ≡ b * c → a * w * d ≡ b * w * c
scaled a b c d w h = omega (arith, ap (λ (z : ℕ). z * w) h)

pattern_same : (f : Format) (s : Bool) (m : ℕ) (e : ℤ) (n : ℕ) (d : ℤ) → m * up e * down d ≡ n * up d * down e → to_bits f (fin s m e) ≡ to_bits f (fin s n d)
unfolding to_bits
pattern_same f s m e n d h =
    ap (λ (c : ℕ). cond s (top f) 0 + (size c - prec f) * hid f + c / 2 ^ (size c - prec f))
    (div_same (m * up e * 2 ^ low f) (down e) (n * up d * 2 ^ low f) (down d) (down_pos e) (down_pos d) (scaled (m * up e) (n * up d) (down e) (down d) (2 ^ low f) h))

both_sides : (a b : ℕ) → ltb a b ≡ false → ltb b a ≡ false → a ≡ b
both_sides a b h k = omega (arith, ltb-false a b h, ltb-false b a k)

numbers_level : (m : ℕ) (e : ℤ) (n : ℕ) (d : ℤ) → T (fits binary64 (fin false m e)) → T (fits binary64 (fin false n d))
    → lt (fin false m e) (fin false n d) ≡ false → lt (fin false n d) (fin false m e) ≡ false → fin false m e ≡ fin false n d
unfolding lt
numbers_level m e n d p q h k =
    sym (of_bits-to_bits binary64 (fin false m e) p)
    ∙ ap (of_bits binary64) (pattern_same binary64 false m e n d (both_sides (m * up e * down d) (n * up d * down e) h k))
    ∙ of_bits-to_bits binary64 (fin false n d) q

below_infinity : (s : Bool) (m : ℕ) (e : ℤ) (t : Bool) → ahead (fin s m e) (inf t) ≡ not t
below_infinity s m e t = ahead_of_number (fin s m e) (inf t) tt ∙ (unfold lt in refl)

fits_clear : (s : Bool) (m : ℕ) (e : ℤ) → T (fits binary64 (fin s m e)) → T (fits binary64 (fin false m e))
unfolding fits
fits_clear s zero e h = h
fits_clear s (suc m) e h = h

pub level_equal : (x y : Float) → magnitude x ≡ true → magnitude y ≡ true → ahead x y ≡ false → ahead y x ≡ false → x ≡ y
unfolding magnitude
level_equal nan nan p q h k = refl
level_equal nan (inf t) p q h k = absurd (false≢true (sym k ∙ ahead_of_nan (inf t)))
level_equal nan (fin t n d) p q h k = absurd (false≢true (sym k ∙ ahead_of_nan (fin t n d)))
level_equal (inf s) nan p q h k = absurd (false≢true (sym h ∙ ahead_of_nan (inf s)))
level_equal (inf s) (inf t) p q h k = ap inf (not-true s p ∙ sym (not-true t q))
level_equal (inf s) (fin t n d) p q h k = absurd (false≢true (sym k ∙ below_infinity t n d s ∙ p))
level_equal (fin true m e) y p q h k = absurd (false≢true p)
level_equal (fin false m e) nan p q h k = absurd (false≢true (sym h ∙ ahead_of_nan (fin false m e)))
level_equal (fin false m e) (inf t) p q h k = absurd (false≢true (sym h ∙ below_infinity false m e t ∙ q))
level_equal (fin false m e) (fin true n d) p q h k = absurd (false≢true q)
level_equal (fin false m e) (fin false n d) p q h k =
    numbers_level m e n d (holds p) (holds q) (sym (ahead_of_number (fin false m e) (fin false n d) tt) ∙ h) (sym (ahead_of_number (fin false n d) (fin false m e) tt) ∙ k)

-- ---- the magnitude of a difference is a `magnitude`
abs_magnitude : (x : Float) → T (fits binary64 x) → magnitude (abs x) ≡ true
unfolding magnitude abs
abs_magnitude nan h = refl
abs_magnitude (inf s) h = refl
abs_magnitude (fin s m e) h = is_true (fits binary64 (fin false m e)) (fits_clear s m e h)

pub difference_magnitude : (x y : Float) → magnitude (abs (sub binary64 x y)) ≡ true
difference_magnitude x y = abs_magnitude (sub binary64 x y) (sub-fits binary64 x y)

-- of a difference and its opposite, which is formed as +0 less the difference, the larger is the magnitude; of two zeros that is the second, +0
some_nonzero : (t : Bool) (m : ℕ) (e : ℤ) → fin t (suc m) e ≡ fin true 0 (pos 0) → ⊥
some_nonzero t m e q = false≢true (sym (some_differs t m e) ∙ ap (λ (x : Float). eq x +0) q ∙ zero_equals true (pos 0))

opposite : (s : Bool) (m : ℕ) (e : ℤ) → T (fits binary64 (fin s (suc m) e)) → +0 -ᶠ fin s (suc m) e ≡ fin (not s) (suc m) e
unfolding sub neg
opposite s m e f = zero_plus (fin (not s) (suc m) e) (neg-fits binary64 (fin s (suc m) e) f) (some_nonzero (not s) m e)

pub larger_opposite : (d : Float) → T (fits binary64 d) → cond ((+0 -ᶠ d) <ᶠ d) d (+0 -ᶠ d) ≡ abs d
unfolding sub neg abs
larger_opposite nan f = unfold add lt in refl
larger_opposite (inf true) f = unfold add lt in refl
larger_opposite (inf false) f = unfold add lt in refl
larger_opposite (fin true zero e) f = subst (λ (d : Float). cond ((+0 -ᶠ d) <ᶠ d) d (+0 -ᶠ d) ≡ abs d) (sym (only_zero true e f)) (unfold add lt in refl)
larger_opposite (fin false zero e) f = subst (λ (d : Float). cond ((+0 -ᶠ d) <ᶠ d) d (+0 -ᶠ d) ≡ abs d) (sym (only_zero false e f)) (unfold add lt in refl)
larger_opposite (fin true (suc m) e) f = rw (opposite true m e f, above) refl
  where
    above : lt (fin false (suc m) e) (fin true (suc m) e) ≡ false
    above = side (lt (fin false (suc m) e) (fin true (suc m) e)) refl
      where
        side : (b : Bool) → lt (fin false (suc m) e) (fin true (suc m) e) ≡ b → lt (fin false (suc m) e) (fin true (suc m) e) ≡ false
        side false q = q
        side true q = absurd (false≢true (sym (some_below false m e) ∙ lt_transitive (fin false (suc m) e) (fin true (suc m) e) +0 q (some_below true m e)))
larger_opposite (fin false (suc m) e) f = rw (opposite false m e f, lt_transitive (fin true (suc m) e) +0 (fin false (suc m) e) (some_below true m e) (some_above false m e)) refl
