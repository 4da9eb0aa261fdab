-- Values that are at or above 0, or NaN: what `round` returns for a fraction that is not negative, a product, a quotient, and a middle with such a value added and taken away, between which nothing lies outside on both sides. Assumes nothing.
use mathlib.Core.Path.{◌≡◌, refl, subst}
use Prim.Native.Nat.{ℕ, zero, suc, ◌*◌, ◌<◌}
use native.Mathlib.Nat.{mul-pos, zero-mul, mul-zero}
use native.Mathlib.Omega.{arith}
use mathlib.Core.Bool.{Bool, true, false, cond}
use lib.Dec.{T, eqb, lit<}
use lib.IntN.{ℤ, pos}
use lib.Ieee.{Float, nan, inf, fin, Format, binary64, up, down, round, add, sub, mul, div, neg, lt, le, of_int}
use lib.Ieee.Fits.{down_pos}
use lib.Ieee.Positive.{positive}
use Rattle.floats.specs.Numbers.{+0, of_whole}
use Rattle.floats.proofs.Order.Fractions.{Leq, leq→le}
use Rattle.floats.proofs.Order.Laws.{number, le_reflexive, le_left, le_right, lt→le, le_transitive, lt_then_le, lt_not_le, neg_anti}
use Rattle.floats.proofs.Order.Rounding.{clear, round_clear, round_le}
use Rattle.floats.proofs.Order.Sums.{add_le}
use Rattle.floats.proofs.Order.Zero.{some_below}

-- if it is a number, it is at or above 0
abbrev pub FromZero : Float → Type 0
FromZero x = T (number x) → T (le +0 x)

pub zero_from_zero : (s : Bool) (e : ℤ) → FromZero (fin s zero e)
zero_from_zero true e _ = leq→le false 0 (pos 0) true 0 e (omega arith)
zero_from_zero false e _ = leq→le false 0 (pos 0) false 0 e (omega arith)

pub clear_from_zero : (x : Float) → T (clear x) → FromZero x
clear_from_zero nan p = absurd p
clear_from_zero (inf true) p = absurd p
clear_from_zero (inf false) p = λ _. unfold le in tt
clear_from_zero (fin true m e) p = absurd p
clear_from_zero (fin false m e) p = λ _. leq→le false 0 (pos 0) false m e (omega arith)

-- a number below 0 is not
below_zero_lem : (m : ℕ) (e : ℤ) → T (le +0 (fin true (suc m) e)) → ⊥
below_zero_lem m e h = lt_not_le (fin true (suc m) e) +0 (rw (some_below true m e) tt) h

-- ---- products
pub positive_product : (f : Format) (x y : Float) → T (positive x) → T (positive y) → T (clear (mul f x y))
unfolding mul
positive_product f nan y p q = absurd p
positive_product f (inf s) y p q = absurd p
positive_product f (fin true m e) y p q = absurd p
positive_product f (fin false m e) nan p q = absurd q
positive_product f (fin false m e) (inf t) p q = absurd q
positive_product f (fin false m e) (fin true n d) p q = absurd q
positive_product f (fin false m e) (fin false n d) p q = round_clear f (m * up e * (n * up d)) (down e * down d)

nothing_rounded : round binary64 false 0 1 ≡ +0
nothing_rounded = unfold round in refl

-- a fraction that is 0, with either sign
round_zero : (s : Bool) (a c : ℕ) → a ≡ 0 → 0 < c → T (le +0 (round binary64 s a c))
round_zero s a c e h = subst (λ (z : Float). T (le z (round binary64 s a c))) nothing_rounded (round_le binary64 false 0 1 s a c (lit< tt) h (nothing s))
  where
    nothing : (s : Bool) → Leq false 0 1 s a c
    nothing true = omega (arith, e)
    nothing false = omega arith

-- an infinity, or NaN where the other factor is 0
infinite : (none : Bool) → FromZero (cond none nan (inf false))
infinite true = λ n. absurd n
infinite false = λ _. unfold le in tt

pub product_from_zero : (x y : Float) → T (clear x) → FromZero y → FromZero (mul binary64 x y)
unfolding mul
product_from_zero nan y p q = absurd p
product_from_zero (inf true) y p q = absurd p
product_from_zero (inf false) nan p q = λ n. absurd n
product_from_zero (inf false) (inf true) p q = λ _. absurd (unfold le in q tt)
product_from_zero (inf false) (inf false) p q = λ _. unfold le in tt
product_from_zero (inf false) (fin true zero d) p q = λ n. absurd n
product_from_zero (inf false) (fin true (suc n) d) p q = λ _. absurd (below_zero_lem n d (q tt))
product_from_zero (inf false) (fin false n d) p q = infinite (eqb n 0)
product_from_zero (fin true m e) y p q = absurd p
product_from_zero (fin false m e) nan p q = λ n. absurd n
product_from_zero (fin false m e) (inf true) p q = λ _. absurd (unfold le in q tt)
product_from_zero (fin false m e) (inf false) p q = infinite (eqb m 0)
product_from_zero (fin false m e) (fin false n d) p q = clear_from_zero (round binary64 false (m * up e * (n * up d)) (down e * down d)) (round_clear binary64 (m * up e * (n * up d)) (down e * down d))
product_from_zero (fin false m e) (fin true zero d) p q = λ _. round_zero true (m * up e * (0 * up d)) (down e * down d) (nothing (m * up e) (up d)) (mul-pos (down_pos e) (down_pos d))
  where
    nothing : (a b : ℕ) → a * (0 * b) ≡ 0
    nothing a b = rw (zero-mul b, mul-zero a)
product_from_zero (fin false m e) (fin true (suc n) d) p q = λ _. absurd (below_zero_lem n d (q tt))

-- ---- quotients
-- if it is a number, it has no minus sign: it is at or above 0, and not -0
abbrev pub Unsigned : Float → Type 0
Unsigned x = T (number x) → T (clear x)

pub unsigned_from_zero : (x : Float) → Unsigned x → FromZero x
unsigned_from_zero x p n = clear_from_zero x (p n) n

-- a whole number has none
pub whole_clear : (n : ℕ) → T (clear (of_whole n))
unfolding of_int
whole_clear n = round_clear binary64 n 1

-- a quotient of numbers, or by a zero, of which 0 / 0 is NaN
divided : (none nothing : Bool) (y : Float) → T (clear y) → Unsigned (cond none (cond nothing nan (inf false)) y)
divided true true y p = λ n. absurd n
divided true false y p = λ _. tt
divided false nothing y p = λ _. p

pub quotient_unsigned : (f : Format) (x y : Float) → Unsigned x → T (clear y) → Unsigned (div f x y)
unfolding div
quotient_unsigned f x nan p q = absurd q
quotient_unsigned f x (inf true) p q = absurd q
quotient_unsigned f x (fin true n d) p q = absurd q
quotient_unsigned f nan (inf false) p q = λ n. absurd n
quotient_unsigned f nan (fin false n d) p q = λ n. absurd n
quotient_unsigned f (inf true) (inf false) p q = λ n. absurd n
quotient_unsigned f (inf false) (inf false) p q = λ n. absurd n
quotient_unsigned f (inf true) (fin false n d) p q = λ _. absurd (p tt)
quotient_unsigned f (inf false) (fin false n d) p q = λ _. tt
quotient_unsigned f (fin true m e) (inf false) p q = λ _. absurd (p tt)
quotient_unsigned f (fin false m e) (inf false) p q = λ _. tt
quotient_unsigned f (fin true m e) (fin false n d) p q = λ _. absurd (p tt)
quotient_unsigned f (fin false m e) (fin false n d) p q = divided (eqb n 0) (eqb m 0) (round f false (m * up e * down d) (n * up d * down e)) (round_clear f (m * up e * down d) (n * up d * down e))

-- ---- limits
added_number : (f : Format) (x y : Float) → T (number (add f x y)) → T (number x) × T (number y)
unfolding add
added_number f nan y p = absurd p
added_number f (inf s) nan p = absurd p
added_number f (inf s) (inf t) p = (tt, tt)
added_number f (inf s) (fin t n d) p = (tt, tt)
added_number f (fin s m e) nan p = absurd p
added_number f (fin s m e) (inf t) p = (tt, tt)
added_number f (fin s m e) (fin t n d) p = (tt, tt)

neg_under : (w : Float) → T (le +0 w) → T (le (neg w) w)
neg_under w h = le_transitive (neg w) (neg +0) w (neg_anti +0 w h) (le_transitive (neg +0) +0 w (unfold le neg in tt) h)

-- no `z` is above a middle and `w`, and below it less `w`
pub limits_apart : (f : Format) (middle w z : Float) → FromZero w → T (lt (add f middle w) z) → T (lt z (sub f middle w)) → ⊥
unfolding sub
limits_apart f middle w z from above below =
    let upper = le_left (add f middle w) z (lt→le (add f middle w) z above) in
    let lower = le_right z (add f middle (neg w)) (lt→le z (add f middle (neg w)) below) in
    let both = added_number f middle w upper in
    lt_not_le (add f middle w) (add f middle (neg w)) (lt_then_le (add f middle w) z (add f middle (neg w)) above (lt→le z (add f middle (neg w)) below))
    (add_le f middle (neg w) middle w (le_reflexive middle both.0) (neg_under w (from both.1)) lower upper)
