-- One reading's step of a sum: it is never under zero, and it grows with the sum before and with the score, on all values. A NaN can only arise where the lower of two sums is cut to +0. Assumes nothing.
use mathlib.Core.Path.{◌≡◌, refl, sym, ◌∙◌}
use mathlib.Core.Bool.{Bool, true, false, true≢false}
use lib.Dec.{T}
use lib.Ieee.{Float, nan, inf, fin, binary64, add, sub, neg, lt, le, ne}
use lib.Ieee.Scale.{finite}
use Rattle.floats.specs.Numbers.{◌+ᶠ◌, ◌-ᶠ◌, +0}
use Rattle.floats.specs.MaxMin.{larger}
use Rattle.floats.proofs.Order.Laws.{number, le_reflexive, le_left, le_right, not-lt→le, le_then_lt}
use Rattle.floats.proofs.Order.Sums.{risen, risen_le, risen_add, add_le, sub_le}
use Rattle.floats.proofs.Order.Extremes.{max_first_nan, max_second, max_first}

-- ---- cut off at zero
cut_number : (v : Float) → T (number v) → T (le +0 (larger v +0))
cut_number v p = go (lt v +0) refl
  where
    go : (b : Bool) → lt v +0 ≡ b → T (le +0 (larger v +0))
    go true e = rw (max_second v +0 e) (le_reflexive +0 tt)
    go false e = rw (max_first v +0 p e) (not-lt→le v +0 p tt (rw e tt))

pub cut_from_zero : (v : Float) → T (le +0 (larger v +0))
cut_from_zero nan = rw (max_first_nan +0) (le_reflexive +0 tt)
cut_from_zero (inf s) = cut_number (inf s) tt
cut_from_zero (fin s m e) = cut_number (fin s m e) tt

pub cut_le : (a b : Float) → T (le a b) → T (le (larger a +0) (larger b +0))
cut_le a b h = go (lt a +0) (lt b +0) refl refl
  where
    go : (p q : Bool) → lt a +0 ≡ p → lt b +0 ≡ q → T (le (larger a +0) (larger b +0))
    go true q e f = rw (max_second a +0 e) (cut_from_zero b)
    go false true e f = absurd (true≢false (sym (truth (lt a +0) (le_then_lt a b +0 h (rw f tt))) ∙ e))
      where
        truth : (t : Bool) → T t → t ≡ true
        truth true x = refl
        truth false x = absurd x
    go false false e f = rw (max_first a +0 (le_left a b h) e, max_first b +0 (le_right a b h) f) h

-- ---- one reading's step
abbrev pub next : Float → Float → Float → Float
next k u z = larger (u +ᶠ z -ᶠ k) +0

next_low : (k u : Float) → T (finite k) → T (risen u) → next k u (inf true) ≡ +0
unfolding larger sub add neg lt ne
next_low nan u p q = absurd p
next_low (inf s) u p q = absurd p
next_low (fin s m e) nan p q = absurd q
next_low (fin s m e) (inf true) p q = absurd q
next_low (fin s m e) (inf false) p q = refl
next_low (fin s m e) (fin t n d) p q = refl

pub next_le : (k u w z z' : Float) → T (finite k) → T (le +0 u) → T (le u w) → T (le z z') → T (le (next k u z) (next k w z'))
next_le k u w z z' K U h l = go z l
  where
    U' : T (risen u)
    U' = risen_le +0 u tt U

    up : (y : Float) → T (risen y) → T (le y z') → T (le (next k u y) (next k w z'))
    up y r g =
        cut_le (u +ᶠ y -ᶠ k) (w +ᶠ z' -ᶠ k)
        (sub_le binary64 (u +ᶠ y) (w +ᶠ z') k K
        (add_le binary64 u y w z' h g (risen_add binary64 u y U' r) (risen_add binary64 w z' (risen_le u w U' h) (risen_le y z' r g))))

    go : (y : Float) → T (le y z') → T (le (next k u y) (next k w z'))
    go nan g = absurd (unfold le in g)
    go (inf true) g = rw (next_low k u K U') (cut_from_zero (w +ᶠ z' -ᶠ k))
    go (inf false) g = up (inf false) tt g
    go (fin s m e) g = up (fin s m e) tt g
