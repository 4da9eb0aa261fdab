-- The order of IEEE 754: `le` is reflexive on what is no NaN and transitive, `lt` goes through it, one of the two holds, never both, and `neg` turns the order round. Assumes nothing.
use mathlib.Core.Path.{◌≡◌, refl}
use Prim.Native.Nat.{ℕ, ◌+◌, ◌*◌, ◌≤◌, ◌<◌}
use native.Mathlib.Nat.{le_of_mul-le-mul_right, lt_of_not-le, mul-le-mul_right, mul-lt-mul_of_pos_right}
use native.Mathlib.Omega.{arith}
use mathlib.Core.Bool.{Bool, true, false, not}
use lib.IntN.{ℤ}
use lib.Dec.{T, T_not}
use lib.Ieee.{Float, nan, inf, fin, up, down, neg, lt, le}
use lib.Ieee.Fits.{down_pos}
use Rattle.floats.proofs.Order.Fractions.{or_l, gain, loss, Leq, Less, lt→less, less→lt, le→leq, leq→le}

-- ---- the order on all the values
-- not a NaN
abbrev pub number : Float → Bool
number nan = false
number (inf s) = true
number (fin s m e) = true

le_refl_fin : (s : Bool) (m : ℕ) (e : ℤ) → T (le (fin s m e) (fin s m e))
le_refl_fin s m e = leq→le s m e s m e (omega arith)

pub le_reflexive : (x : Float) → T (number x) → T (le x x)
unfolding le
le_reflexive nan p = absurd p
le_reflexive (inf true) p = tt
le_reflexive (inf false) p = tt
le_reflexive (fin s m e) p = le_refl_fin s m e

pub le_left : (x y : Float) → T (le x y) → T (number x)
unfolding le
le_left nan y h = absurd h
le_left (inf s) y h = tt
le_left (fin s m e) y h = tt

pub le_right : (x y : Float) → T (le x y) → T (number y)
unfolding le
le_right nan nan h = absurd h
le_right (inf s) nan h = absurd h
le_right (fin s m e) nan h = absurd h
le_right x (inf t) h = tt
le_right x (fin t n d) h = tt

pub lt→le : (x y : Float) → T (lt x y) → T (le x y)
unfolding le
lt→le x y h = or_l (lt x y) (lib.Ieee.eq x y) h

pub lowest : (y : Float) → T (number y) → T (le (inf true) y)
unfolding le
lowest nan p = absurd p
lowest (inf true) p = tt
lowest (inf false) p = tt
lowest (fin t n d) p = tt

pub highest : (x : Float) → T (number x) → T (le x (inf false))
unfolding le
highest nan p = absurd p
highest (inf true) p = tt
highest (inf false) p = tt
highest (fin s m e) p = tt

-- x < y ≤ z, as fractions
less_leq : (p n c p' n' c' p'' n'' c'' : ℕ) → 0 < c' → 0 < c'' → p * c' + n' * c < p' * c + n * c' → p' * c'' + n'' * c' ≤ p'' * c' + n' * c'' → p * c'' + n'' * c < p'' * c + n * c''
less_leq p n c p' n' c' p'' n'' c'' C' C'' h k =
    lt_of_not-le (λ (g : p'' * c + n * c'' ≤ p * c'' + n'' * c). clash g)
  where
    clash : p'' * c + n * c'' ≤ p * c'' + n'' * c → ⊥
    clash g = omega (arith, mul-le-mul_right c' g, mul-lt-mul_of_pos_right h C'', mul-le-mul_right c k)

leq_leq : (p n c p' n' c' p'' n'' c'' : ℕ) → 0 < c' → p * c' + n' * c ≤ p' * c + n * c' → p' * c'' + n'' * c' ≤ p'' * c' + n' * c'' → p * c'' + n'' * c ≤ p'' * c + n * c''
leq_leq p n c p' n' c' p'' n'' c'' C' h k =
    le_of_mul-le-mul_right (half (mul-le-mul_right c'' h) (mul-le-mul_right c k)) C'
  where
    half : (p * c' + n' * c) * c'' ≤ (p' * c + n * c') * c'' → (p' * c'' + n'' * c') * c ≤ (p'' * c' + n' * c'') * c → (p * c'' + n'' * c) * c' ≤ (p'' * c + n * c'') * c'
    half a b = omega arith

pub le_transitive : (x y z : Float) → T (le x y) → T (le y z) → T (le x z)
unfolding le
le_transitive nan y z h k = absurd h
le_transitive (inf true) y z h k = lowest z (le_right y z k)
le_transitive (inf false) nan z h k = absurd h
le_transitive (inf false) (inf true) z h k = absurd h
le_transitive (inf false) (inf false) z h k = k
le_transitive (inf false) (fin t n d) z h k = absurd h
le_transitive (fin s m e) nan z h k = absurd h
le_transitive (fin s m e) (inf true) z h k = absurd h
le_transitive (fin s m e) (inf false) nan h k = absurd k
le_transitive (fin s m e) (inf false) (inf true) h k = absurd k
le_transitive (fin s m e) (inf false) (inf false) h k = tt
le_transitive (fin s m e) (inf false) (fin u o c) h k = absurd k
le_transitive (fin s m e) (fin t n d) nan h k = absurd k
le_transitive (fin s m e) (fin t n d) (inf true) h k = absurd k
le_transitive (fin s m e) (fin t n d) (inf false) h k = tt
le_transitive (fin s m e) (fin t n d) (fin u o c) h k =
    leq→le s m e u o c
    (leq_leq (gain s (m * up e)) (loss s (m * up e)) (down e) (gain t (n * up d)) (loss t (n * up d)) (down d) (gain u (o * up c)) (loss u (o * up c)) (down c) (down_pos d)
    (le→leq s m e t n d h) (le→leq t n d u o c k))

-- one order or the other: a test that fails
pub not-lt→le : (x y : Float) → T (number x) → T (number y) → T (not (lt x y)) → T (le y x)
unfolding lt le
not-lt→le nan y p q h = absurd p
not-lt→le (inf s) nan p q h = absurd q
not-lt→le (inf true) (inf true) p q h = tt
not-lt→le (inf true) (inf false) p q h = absurd h
not-lt→le (inf false) (inf true) p q h = tt
not-lt→le (inf false) (inf false) p q h = tt
not-lt→le (inf true) (fin t n d) p q h = absurd h
not-lt→le (inf false) (fin t n d) p q h = tt
not-lt→le (fin s m e) nan p q h = absurd q
not-lt→le (fin s m e) (inf true) p q h = tt
not-lt→le (fin s m e) (inf false) p q h = absurd h
not-lt→le (fin s m e) (fin t n d) p q h =
    leq→le t n d s m e (le_of_not_lt (λ (g : Less s (m * up e) (down e) t (n * up d) (down d)). T_not (lt (fin s m e) (fin t n d)) h (less→lt s m e t n d g)))
  where
    le_of_not_lt : {a b : ℕ} → ¬ (b < a) → a ≤ b
    le_of_not_lt h = omega arith

pub lt_then_le : (x y z : Float) → T (lt x y) → T (le y z) → T (lt x z)
unfolding lt le
lt_then_le nan y z h k = absurd h
lt_then_le (inf s) nan z h k = absurd h
lt_then_le (inf s) (inf t) nan h k = absurd k
lt_then_le (inf true) (inf true) (inf u) h k = absurd h
lt_then_le (inf true) (inf false) (inf true) h k = absurd k
lt_then_le (inf true) (inf false) (inf false) h k = tt
lt_then_le (inf false) (inf t) (inf u) h k = absurd h
lt_then_le (inf true) (inf t) (fin u o c) h k = tt
lt_then_le (inf false) (inf t) (fin u o c) h k = absurd h
lt_then_le (inf s) (fin t n d) nan h k = absurd k
lt_then_le (inf true) (fin t n d) (inf true) h k = absurd k
lt_then_le (inf true) (fin t n d) (inf false) h k = tt
lt_then_le (inf false) (fin t n d) (inf u) h k = absurd h
lt_then_le (inf s) (fin t n d) (fin u o c) h k = h
lt_then_le (fin s m e) nan z h k = absurd h
lt_then_le (fin s m e) (inf true) z h k = absurd h
lt_then_le (fin s m e) (inf false) nan h k = absurd k
lt_then_le (fin s m e) (inf false) (inf true) h k = absurd k
lt_then_le (fin s m e) (inf false) (inf false) h k = tt
lt_then_le (fin s m e) (inf false) (fin u o c) h k = absurd k
lt_then_le (fin s m e) (fin t n d) nan h k = absurd k
lt_then_le (fin s m e) (fin t n d) (inf true) h k = absurd k
lt_then_le (fin s m e) (fin t n d) (inf false) h k = tt
lt_then_le (fin s m e) (fin t n d) (fin u o c) h k =
    less→lt s m e u o c
    (less_leq (gain s (m * up e)) (loss s (m * up e)) (down e) (gain t (n * up d)) (loss t (n * up d)) (down d) (gain u (o * up c)) (loss u (o * up c)) (down c) (down_pos d) (down_pos c)
    (lt→less s m e t n d h) (le→leq t n d u o c k))

pub lt_irreflexive : (x : Float) → T (lt x x) → ⊥
unfolding lt
lt_irreflexive nan h = h
lt_irreflexive (inf true) h = h
lt_irreflexive (inf false) h = h
lt_irreflexive (fin s m e) h = never (gain s (m * up e) * down e + loss s (m * up e) * down e) (lt→less s m e s m e h)
  where
    never : (a : ℕ) → a < a → ⊥
    never a h = omega arith

-- and never both
pub lt_not_le : (x y : Float) → T (lt x y) → T (le y x) → ⊥
lt_not_le x y h k = lt_irreflexive x (lt_then_le x y x h k)

pub le_then_lt : (x y z : Float) → T (le x y) → T (lt y z) → T (lt x z)
le_then_lt x y z h k = go (lt x z) refl
  where
    go : (b : Bool) → lt x z ≡ b → T b
    go true e = tt
    go false e = absurd (lt_not_le y z k (le_transitive z x y (not-lt→le x z (le_left x y h) (le_right y z (lt→le y z k)) (rw e tt)) h))

-- ---- the negative
turn : (s : Bool) (a c : ℕ) (t : Bool) (b d : ℕ) → Leq s a c t b d → Leq (not t) b d (not s) a c
turn false a c false b d h = omega arith
turn false a c true b d h = omega arith
turn true a c false b d h = omega arith
turn true a c true b d h = omega arith

pub neg_anti : (x y : Float) → T (le x y) → T (le (neg y) (neg x))
unfolding le neg
neg_anti nan y h = absurd h
neg_anti (inf s) nan h = absurd h
neg_anti (inf true) (inf true) h = tt
neg_anti (inf true) (inf false) h = tt
neg_anti (inf false) (inf true) h = absurd h
neg_anti (inf false) (inf false) h = tt
neg_anti (inf true) (fin t n d) h = tt
neg_anti (inf false) (fin t n d) h = absurd h
neg_anti (fin s m e) nan h = absurd h
neg_anti (fin s m e) (inf true) h = absurd h
neg_anti (fin s m e) (inf false) h = tt
neg_anti (fin s m e) (fin t n d) h = leq→le (not t) n d (not s) m e (turn s (m * up e) (down e) t (n * up d) (down d) (le→leq s m e t n d h))
