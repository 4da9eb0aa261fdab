-- The laws of max and min that a caller cites: the other operand of a NaN, and otherwise the second only where it is strictly beyond the first. Assumes nothing.
use mathlib.Core.Path.{◌≡◌, refl}
use mathlib.Core.Bool.{Bool, true, false, cond}
use lib.Dec.{T}
use lib.Ieee.{Float, nan, inf, fin, lt, ne}
use lib.Ieee.Compare.{differs_from_itself}
use Rattle.floats.specs.MaxMin.{larger, smaller}
use Rattle.floats.proofs.Order.Laws.{number}

-- ---- both are one choice, by whether the second is beyond the first
abbrev choice : Bool → Float → Float → Float
choice beyond x y = cond beyond y (cond (ne x x) y x)

choice_first_nan : (b : Bool) (y : Float) → choice b nan y ≡ y
unfolding ne
choice_first_nan true y = refl
choice_first_nan false y = refl

itself : (x : Float) → T (number x) → ne x x ≡ false
itself x t = go (ne x x) (differs_from_itself x)
  where
    go : (b : Bool) → (T b → x ≡ nan) → b ≡ false
    go true h = absurd (rw (h tt) at t)
    go false h = refl

choice_first : (x y : Float) → T (number x) → choice false x y ≡ x
choice_first x y t = rw (itself x t)

choice_second_nan : (x : Float) → choice false x nan ≡ x
choice_second_nan nan = choice_first_nan false nan
choice_second_nan (inf s) = choice_first (inf s) nan tt
choice_second_nan (fin s m e) = choice_first (fin s m e) nan tt

nan_not_below : (x : Float) → lt x nan ≡ false
unfolding lt
nan_not_below nan = refl
nan_not_below (inf s) = refl
nan_not_below (fin s m e) = refl

nan_not_above : (x : Float) → lt nan x ≡ false
unfolding lt
nan_not_above x = refl

-- ---- max
pub max_first_nan : (y : Float) → larger nan y ≡ y
unfolding larger
max_first_nan y = choice_first_nan (lt nan y) y

pub max_second_nan : (x : Float) → larger x nan ≡ x
unfolding larger
max_second_nan x = rw (nan_not_below x) (choice_second_nan x)

pub max_second : (x y : Float) → lt x y ≡ true → larger x y ≡ y
unfolding larger
max_second x y h = rw h

pub max_first : (x y : Float) → T (number x) → lt x y ≡ false → larger x y ≡ x
unfolding larger
max_first x y t h = rw h (choice_first x y t)

-- ---- min
pub min_first_nan : (y : Float) → smaller nan y ≡ y
unfolding smaller
min_first_nan y = choice_first_nan (lt y nan) y

pub min_second_nan : (x : Float) → smaller x nan ≡ x
unfolding smaller
min_second_nan x = rw (nan_not_above x) (choice_second_nan x)

pub min_second : (x y : Float) → lt y x ≡ true → smaller x y ≡ y
unfolding smaller
min_second x y h = rw h

pub min_first : (x y : Float) → T (number x) → lt y x ≡ false → smaller x y ≡ x
unfolding smaller
min_first x y t h = rw h (choice_first x y t)
