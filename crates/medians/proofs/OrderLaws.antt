-- The order of differences is a strict weak one: of two values at most one is ahead of the other, and to be level is transitive. Assumes nothing.
use mathlib.Core.Path.{◌≡◌, refl, sym, ◌∙◌, subst}
use mathlib.Core.Bool.{Bool, true, false, not, ◌||◌, cond, true≢false, false≢true}
use lib.Dec.{T}
use lib.Ieee.{Float, nan, inf, fin, lt, is_nan}
use lib.Ieee.Bits.{is_true}
use Rattle.floats.proofs.Order.Laws.{number, lt→le, not-lt→le, lt_then_le, lt_not_le}
use Rattle.floats.specs.Ahead.{ahead}

pub holds : {b : Bool} → b ≡ true → T b
holds e = subst T (sym e) tt

pub fails : {b : Bool} → b ≡ false → T (not b)
fails e = rw e tt

pub lt_transitive : (x y z : Float) → lt x y ≡ true → lt y z ≡ true → lt x z ≡ true
lt_transitive x y z e f = is_true (lt x z) (lt_then_le x y z (holds e) (lt→le y z (holds f)))

-- of two values the one that a test picks passes what both pass
pub picked : (p : Float → Bool) (b : Bool) (x y : Float) → p x ≡ true → p y ≡ true → p (cond b x y) ≡ true
picked p true x y f g = f
picked p false x y f g = g

-- ---- ahead of a number, and ahead of NaN
number_not_nan : (x : Float) → T (number x) → is_nan x ≡ false
unfolding is_nan
number_not_nan nan h = absurd h
number_not_nan (inf s) h = refl
number_not_nan (fin s m e) h = refl

drop_or : (b : Bool) → (b || false) ≡ b
drop_or true = refl
drop_or false = refl

pub ahead_of_number : (y x : Float) → T (number x) → ahead y x ≡ lt y x
unfolding ahead
ahead_of_number y x h = rw (number_not_nan x h) (drop_or (lt y x))

not_below_nan : (y : Float) → lt y nan ≡ false
unfolding lt
not_below_nan nan = refl
not_below_nan (inf s) = refl
not_below_nan (fin s m e) = refl

pub ahead_of_nan : (y : Float) → ahead y nan ≡ number y
unfolding ahead is_nan
ahead_of_nan nan = rw (not_below_nan nan)
ahead_of_nan (inf s) = rw (not_below_nan (inf s))
ahead_of_nan (fin s m e) = rw (not_below_nan (fin s m e))

nan_ahead : (x : Float) → ahead nan x ≡ false
unfolding ahead lt is_nan
nan_ahead nan = refl
nan_ahead (inf s) = refl
nan_ahead (fin s m e) = refl

-- where `v` is ahead of `x` and `y` is not ahead of `x`, `v` is ahead of `y`
numbers_ahead : (v x y : Float) → T (number x) → T (number y) → ahead v x ≡ true → ahead y x ≡ false → ahead v y ≡ true
numbers_ahead v x y p q h k =
    ahead_of_number v y q
    ∙ is_true (lt v y) (lt_then_le v x y (holds (sym (ahead_of_number v x p) ∙ h)) (not-lt→le y x q p (fails (sym (ahead_of_number y x p) ∙ k))))

ahead_number : (v x : Float) → ahead v x ≡ true → T (number v)
ahead_number nan x h = absurd (false≢true (sym (nan_ahead x) ∙ h))
ahead_number (inf s) x h = tt
ahead_number (fin s m e) x h = tt

not_ahead_of_nan : (y : Float) → ahead y nan ≡ false → y ≡ nan
not_ahead_of_nan nan h = refl
not_ahead_of_nan (inf s) h = absurd (true≢false (sym (ahead_of_nan (inf s)) ∙ h))
not_ahead_of_nan (fin s m e) h = absurd (true≢false (sym (ahead_of_nan (fin s m e)) ∙ h))

pub ahead_of_later : (v x y : Float) → ahead v x ≡ true → ahead y x ≡ false → ahead v y ≡ true
ahead_of_later v nan y h k = rw (not_ahead_of_nan y k) h
ahead_of_later v (inf s) nan h k = ahead_of_nan v ∙ is_true (number v) (ahead_number v (inf s) h)
ahead_of_later v (inf s) (inf t) h k = numbers_ahead v (inf s) (inf t) tt tt h k
ahead_of_later v (inf s) (fin t n d) h k = numbers_ahead v (inf s) (fin t n d) tt tt h k
ahead_of_later v (fin s m e) nan h k = ahead_of_nan v ∙ is_true (number v) (ahead_number v (fin s m e) h)
ahead_of_later v (fin s m e) (inf t) h k = numbers_ahead v (fin s m e) (inf t) tt tt h k
ahead_of_later v (fin s m e) (fin t n d) h k = numbers_ahead v (fin s m e) (fin t n d) tt tt h k

-- of two values at most one is ahead of the other
numbers_apart : (x y : Float) → T (number x) → T (number y) → ahead x y ≡ true → ahead y x ≡ true → ⊥
numbers_apart x y p q h k = lt_not_le x y (holds (sym (ahead_of_number x y q) ∙ h)) (lt→le y x (holds (sym (ahead_of_number y x p) ∙ k)))

never_both : (x y : Float) → ahead x y ≡ true → ahead y x ≡ true → ⊥
never_both x y h k = numbers_apart x y (ahead_number x y h) (ahead_number y x k) h k

pub one_ahead : (x y : Float) → ahead x y ≡ true → ahead y x ≡ false
one_ahead x y h = side (ahead y x) refl
  where
    side : (b : Bool) → ahead y x ≡ b → ahead y x ≡ false
    side true k = absurd (never_both x y h k)
    side false k = k

pub none_ahead_of_itself : (x : Float) → ahead x x ≡ false
none_ahead_of_itself x = side (ahead x x) refl
  where
    side : (b : Bool) → ahead x x ≡ b → ahead x x ≡ false
    side true k = one_ahead x x k
    side false k = k

-- where `z` is not ahead of `y` and `y` is not ahead of `x`, `z` is not ahead of `x`
pub not_ahead_twice : (x y z : Float) → ahead y x ≡ false → ahead z y ≡ false → ahead z x ≡ false
not_ahead_twice x y z h k = side (ahead z x) refl
  where
    side : (b : Bool) → ahead z x ≡ b → ahead z x ≡ false
    side true e = absurd (true≢false (sym (ahead_of_later z x y e h) ∙ k))
    side false e = e
