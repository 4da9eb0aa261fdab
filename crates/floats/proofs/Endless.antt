-- NaN, or the infinity of one sign: a sum stays so whatever is added, a product and a quotient too, and of two that are alike the difference is NaN. Assumes nothing.
use mathlib.Core.Path.{◌≡◌, refl}
use mathlib.Core.Bool.{Bool, true, false, not, cond, ◌||◌, beq, true≢false}
use lib.Dec.{T, eqb}
use lib.Ieee.{Float, nan, inf, fin, Format, neg, add, sub, mul, div, unlike}
use Rattle.floats.specs.Finite.{finite}
use Rattle.floats.proofs.Order.Fractions.{or_l, or_r}
use Rattle.floats.proofs.Order.Rounding.{clear}

-- whether `x` is NaN, or the infinity of the sign `s`
abbrev pub endless : Bool → Float → Bool
endless s nan = true
endless s (inf t) = beq s t
endless s (fin t m e) = false

-- what is not finite is so for some sign
pub gap_endless : (x : Float) → finite x ≡ false → (s : Bool) × T (endless s x)
gap_endless nan h = (false, tt)
gap_endless (inf true) h = (true, tt)
gap_endless (inf false) h = (false, tt)
gap_endless (fin s m e) h = absurd (true≢false h)

-- ---- sums
-- a sum is so where one of the two is
endless_sum : (f : Format) (s : Bool) (x y : Float) → T (endless s x || endless s y) → T (endless s (add f x y))
unfolding add
endless_sum f s nan y h = tt
endless_sum f s (inf t) nan h = tt
endless_sum f s (inf true) (inf false) h = tt
endless_sum f s (inf false) (inf true) h = tt
endless_sum f true (inf true) (inf true) h = tt
endless_sum f true (inf false) (inf false) h = absurd h
endless_sum f false (inf true) (inf true) h = absurd h
endless_sum f false (inf false) (inf false) h = tt
endless_sum f true (inf true) (fin u n d) h = tt
endless_sum f true (inf false) (fin u n d) h = absurd h
endless_sum f false (inf true) (fin u n d) h = absurd h
endless_sum f false (inf false) (fin u n d) h = tt
endless_sum f s (fin t m e) nan h = tt
endless_sum f s (fin t m e) (inf u) h = h
endless_sum f s (fin t m e) (fin u n d) h = absurd h

pub endless_add : (f : Format) (s : Bool) (x y : Float) → T (endless s x) → T (endless s (add f x y))
endless_add f s x y h = endless_sum f s x y (or_l (endless s x) (endless s y) h)

pub add_endless : (f : Format) (s : Bool) (x y : Float) → T (endless s y) → T (endless s (add f x y))
add_endless f s x y h = endless_sum f s x y (or_r (endless s x) (endless s y) h)

-- of two signs the sum is NaN
pub endless_against : (f : Format) (s : Bool) (x y : Float) → T (endless s x) → T (endless (not s) y) → add f x y ≡ nan
unfolding add
endless_against f s nan y h k = refl
endless_against f s (inf t) nan h k = refl
endless_against f true (inf false) (inf u) h k = absurd h
endless_against f false (inf true) (inf u) h k = absurd h
endless_against f true (inf true) (inf true) h k = absurd k
endless_against f true (inf true) (inf false) h k = refl
endless_against f false (inf false) (inf true) h k = refl
endless_against f false (inf false) (inf false) h k = absurd k
endless_against f s (inf t) (fin u n d) h k = absurd k
endless_against f s (fin t m e) y h k = absurd h

-- ---- differences
pub neg_endless : (s : Bool) (x : Float) → T (endless s x) → T (endless (not s) (neg x))
unfolding neg
neg_endless s nan h = tt
neg_endless true (inf true) h = tt
neg_endless true (inf false) h = absurd h
neg_endless false (inf true) h = absurd h
neg_endless false (inf false) h = tt
neg_endless s (fin t m e) h = absurd h

pub endless_less : (f : Format) (s : Bool) (x y : Float) → T (endless s x) → T (endless s y) → sub f x y ≡ nan
unfolding sub
endless_less f s x y h k = endless_against f s x (neg y) h (neg_endless s y k)

-- ---- products and quotients
pub endless_square : (f : Format) (s : Bool) (x y : Float) → T (endless s x) → T (endless s y) → T (endless false (mul f x y))
unfolding mul
endless_square f s nan y h k = tt
endless_square f s (inf t) nan h k = tt
endless_square f true (inf false) (inf u) h k = absurd h
endless_square f false (inf true) (inf u) h k = absurd h
endless_square f true (inf true) (inf true) h k = tt
endless_square f true (inf true) (inf false) h k = absurd k
endless_square f false (inf false) (inf true) h k = absurd k
endless_square f false (inf false) (inf false) h k = tt
endless_square f s (inf t) (fin u n d) h k = absurd k
endless_square f s (fin t m e) y h k = absurd h

-- an infinity, or NaN where the other factor is 0
either : (s none : Bool) → T (endless s (cond none nan (inf (unlike false s))))
either s true = tt
either true false = tt
either false false = tt

pub clear_endless : (f : Format) (s : Bool) (x y : Float) → T (clear x) → T (endless s y) → T (endless s (mul f x y))
unfolding mul
clear_endless f s nan y h k = absurd h
clear_endless f s (inf true) y h k = absurd h
clear_endless f s (inf false) nan k h = tt
clear_endless f true (inf false) (inf true) h k = tt
clear_endless f true (inf false) (inf false) h k = absurd k
clear_endless f false (inf false) (inf true) h k = absurd k
clear_endless f false (inf false) (inf false) h k = tt
clear_endless f s (inf false) (fin u n d) h k = absurd k
clear_endless f s (fin true m e) y h k = absurd h
clear_endless f s (fin false m e) nan h k = tt
clear_endless f true (fin false m e) (inf true) h k = either true (eqb m 0)
clear_endless f true (fin false m e) (inf false) h k = absurd k
clear_endless f false (fin false m e) (inf true) h k = absurd k
clear_endless f false (fin false m e) (inf false) h k = either false (eqb m 0)
clear_endless f s (fin false m e) (fin u n d) h k = absurd k

pub endless_quotient : (f : Format) (s : Bool) (x y : Float) → T (endless s x) → T (clear y) → T (endless s (div f x y))
unfolding div
endless_quotient f s nan y h k = tt
endless_quotient f s (inf t) nan h k = absurd k
endless_quotient f s (inf t) (inf u) h k = tt
endless_quotient f s (inf t) (fin true n d) h k = absurd k
endless_quotient f true (inf true) (fin false n d) h k = tt
endless_quotient f true (inf false) (fin false n d) h k = absurd h
endless_quotient f false (inf true) (fin false n d) h k = absurd h
endless_quotient f false (inf false) (fin false n d) h k = tt
endless_quotient f s (fin t m e) y h k = absurd h
