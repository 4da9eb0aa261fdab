-- Floats of either sign as fractions: ±a is `gain s a` - `loss s a`, so that their order is one of two sums of products, which `omega` reads; `lt` and `le` are that order on the finite values. Assumes nothing.
use mathlib.Core.Path.{◌≡◌, refl, sym}
use mathlib.Core.Logic.{◌⊎◌, inl, inr}
use Prim.Native.Nat.{ℕ, ◌+◌, ◌*◌, ◌≤◌, ◌<◌}
use native.Mathlib.Nat.{le_of_lt, eq-or-lt_of_le, zero-mul}
use native.Mathlib.Omega.{arith}
use mathlib.Core.Bool.{Bool, true, false, ◌||◌, beq}
use lib.IntN.{ℤ}
use lib.Dec.{T, eqb, ltb→lt, lt→ltb, eqb→eq}
use lib.Ieee.{fin, up, down, lt, le, below, level}
use lib.Ieee.Fits.{and_i, and_l, and_r, eq→eqb}

-- ---- tests
pub or_l : (a b : Bool) → T a → T (a || b)
or_l true b t = tt
or_l false b t = absurd t

pub or_r : (a b : Bool) → T b → T (a || b)
or_r true b t = tt
or_r false b t = t

pub or_split : (a b : Bool) → T (a || b) → T a ⊎ T b
or_split true b t = inl tt
or_split false b t = inr t

-- ---- a signed number, as the difference of two natural numbers
abbrev pub gain : Bool → ℕ → ℕ
gain false a = a
gain true a = 0

abbrev pub loss : Bool → ℕ → ℕ
loss false a = 0
loss true a = a

pub gain_mul : (s : Bool) (a k : ℕ) → gain s (a * k) ≡ gain s a * k
gain_mul false a k = refl
gain_mul true a k = sym (zero-mul k)

pub loss_mul : (s : Bool) (a k : ℕ) → loss s (a * k) ≡ loss s a * k
loss_mul true a k = refl
loss_mul false a k = sym (zero-mul k)

-- ±a / c ≤ ±b / d, and <
abbrev pub Leq : Bool → ℕ → ℕ → Bool → ℕ → ℕ → Type 0
Leq s a c t b d = gain s a * d + loss t b * c ≤ gain t b * c + loss s a * d

abbrev pub Less : Bool → ℕ → ℕ → Bool → ℕ → ℕ → Type 0
Less s a c t b d = gain s a * d + loss t b * c < gain t b * c + loss s a * d

-- ---- the tests `below` and `level` say that
below→ : (s : Bool) (a c : ℕ) (t : Bool) (b d : ℕ) → T (below s (a * d) t (b * c)) → Less s a c t b d
below→ false a c false b d h = omega (arith, ltb→lt)
below→ false a c true b d h = absurd h
below→ true a c false b d h = omega (arith, ltb→lt)
below→ true a c true b d h = omega (arith, ltb→lt)

→below : (s : Bool) (a c : ℕ) (t : Bool) (b d : ℕ) → Less s a c t b d → T (below s (a * d) t (b * c))
→below false a c false b d h = lt→ltb (a * d) (b * c) (omega arith)
→below false a c true b d h = omega arith
→below true a c false b d h = lt→ltb 0 (a * d + b * c) (omega arith)
→below true a c true b d h = lt→ltb (b * c) (a * d) (omega arith)

level→ : (s : Bool) (a c : ℕ) (t : Bool) (b d : ℕ) → a * d ≡ b * c → T (beq s t || eqb (a * d) 0) → Leq s a c t b d
level→ false a c false b d e h = omega arith
level→ false a c true b d e h = omega (arith, eqb→eq)
level→ true a c false b d e h = omega arith
level→ true a c true b d e h = omega arith

equal : (a b : ℕ) → a ≡ b → T (eqb a b)
equal a b e = eq→eqb e

→level : (s : Bool) (a c : ℕ) (t : Bool) (b d : ℕ) → gain s a * d + loss t b * c ≡ gain t b * c + loss s a * d → T (level s (a * d) t (b * c))
→level false a c false b d h = and_i (eqb (a * d) (b * c)) true (equal (a * d) (b * c) (omega arith)) tt
→level false a c true b d h = and_i (eqb (a * d) (b * c)) (eqb (a * d) 0) (equal (a * d) (b * c) (omega arith)) (equal (a * d) 0 (omega arith))
→level true a c false b d h = and_i (eqb (a * d) (b * c)) (eqb (a * d) 0) (equal (a * d) (b * c) (omega arith)) (equal (a * d) 0 (omega arith))
→level true a c true b d h = and_i (eqb (a * d) (b * c)) true (equal (a * d) (b * c) (omega arith)) tt

pub lt→less : (s : Bool) (m : ℕ) (e : ℤ) (t : Bool) (n : ℕ) (d : ℤ) → T (lt (fin s m e) (fin t n d)) → Less s (m * up e) (down e) t (n * up d) (down d)
unfolding lt
lt→less s m e t n d h = below→ s (m * up e) (down e) t (n * up d) (down d) h

pub less→lt : (s : Bool) (m : ℕ) (e : ℤ) (t : Bool) (n : ℕ) (d : ℤ) → Less s (m * up e) (down e) t (n * up d) (down d) → T (lt (fin s m e) (fin t n d))
unfolding lt
less→lt s m e t n d h = →below s (m * up e) (down e) t (n * up d) (down d) h

pub le→leq : (s : Bool) (m : ℕ) (e : ℤ) (t : Bool) (n : ℕ) (d : ℤ) → T (le (fin s m e) (fin t n d)) → Leq s (m * up e) (down e) t (n * up d) (down d)
unfolding le
le→leq s m e t n d h =
    let a = m * up e * down d in
    let b = n * up d * down e in
    elim (or_split (below s a t b) (level s a t b) h) [
      | inl u ↦ le_of_lt (below→ s (m * up e) (down e) t (n * up d) (down d) u)
      | inr u ↦ level→ s (m * up e) (down e) t (n * up d) (down d) (eqb→eq a b (and_l (eqb a b) (beq s t || eqb a 0) u)) (and_r (eqb a b) (beq s t || eqb a 0) u)
    ]

pub leq→le : (s : Bool) (m : ℕ) (e : ℤ) (t : Bool) (n : ℕ) (d : ℤ) → Leq s (m * up e) (down e) t (n * up d) (down d) → T (le (fin s m e) (fin t n d))
unfolding le
leq→le s m e t n d h =
    let a = m * up e * down d in
    let b = n * up d * down e in
    elim (eq-or-lt_of_le h) [
      | inl q ↦ or_r (below s a t b) (level s a t b) (→level s (m * up e) (down e) t (n * up d) (down d) q)
      | inr q ↦ or_l (below s a t b) (level s a t b) (→below s (m * up e) (down e) t (n * up d) (down d) q)
    ]
