-- A sum grows with both its values, and a difference with the first and as the second shrinks: zeros, infinities and overflow included; and where a sum is no NaN. Assumes nothing.
use mathlib.Core.Path.{◌≡◌, refl, ap}
use Prim.Native.Nat.{ℕ, ◌+◌, ◌-◌, ◌*◌, ◌≤◌, ◌<◌}
use native.Mathlib.Nat.{add-mul, mul-le-mul_right, mul-pos}
use native.Mathlib.Omega.{arith}
use mathlib.Core.Bool.{Bool, true, false, not, cond}
use lib.IntN.{ℤ}
use lib.Dec.{T, ltb, ltb→lt, nltb→le}
use lib.Ieee.{Float, nan, inf, fin, Format, up, down, round, sum, neg, add, sub, le}
use lib.Ieee.Fits.{down_pos}
use lib.Ieee.Scale.{finite}
use Rattle.floats.proofs.Order.Fractions.{gain, loss, gain_mul, loss_mul, le→leq}
use Rattle.floats.proofs.Order.Laws.{number, le_reflexive, le_left, le_right, lowest, highest, neg_anti}
use Rattle.floats.proofs.Order.Rounding.{round_le}

-- ---- z is the fraction (p - n) / c, rounded
pub record Rounds (f : Format) (z : Float) (p n c : ℕ) : Type 0 where
  pub sign : Bool
  pub size : ℕ
  pub is : z ≡ round f sign size c
  pub value : gain sign size + n ≡ p + loss sign size

scaled : (g l g' l' p n c p' n' c' : ℕ) → g + n ≡ p + l → g' + n' ≡ p' + l' → p * c' + n' * c ≤ p' * c + n * c' → g * c' + l' * c ≤ g' * c + l * c'
scaled g l g' l' p n c p' n' c' v v' h = omega (arith, ap (λ (z : ℕ). z * c') v, ap (λ (z : ℕ). z * c) v')

pub rounds_le : (f : Format) (z z' : Float) (p n c p' n' c' : ℕ) → Rounds f z p n c → Rounds f z' p' n' c' → 0 < c → 0 < c' → p * c' + n' * c ≤ p' * c + n * c' → T (le z z')
rounds_le f z z' p n c p' n' c' r r' C C' h =
    rw (r.is, r'.is)
    (round_le f r.sign r.size c r'.sign r'.size c' C C'
    (scaled (gain r.sign r.size) (loss r.sign r.size) (gain r'.sign r'.size) (loss r'.sign r'.size) p n c p' n' c' r.value r'.value h))

-- ---- a sum of two finite values
alike : (s : Bool) (a b : ℕ) → gain s (a + b) + (loss s a + loss s b) ≡ gain s a + gain s b + loss s (a + b)
alike false a b = omega arith
alike true a b = omega arith

sum_rounds : (f : Format) (s : Bool) (a : ℕ) (t : Bool) (b c : ℕ) → Rounds f (sum f s a t b c) (gain s a + gain t b) (loss s a + loss t b) c
unfolding sum
sum_rounds f false a false b c = record { sign = false; size = a + b; is = refl; value = alike false a b }
sum_rounds f true a true b c = record { sign = true; size = a + b; is = refl; value = alike true a b }
sum_rounds f false a true b c = go (ltb a b) (ltb→lt a b) (nltb→le a b)
  where
    go : (x : Bool) → (T x → a < b) → (T (not x) → b ≤ a) → Rounds f (cond x (round f true (b - a) c) (round f false (a - b) c)) (a + 0) (0 + b) c
    go true h k = let l = h tt in record { sign = true; size = b - a; is = refl; value = omega arith }
    go false h k = let l = k tt in record { sign = false; size = a - b; is = refl; value = omega arith }
sum_rounds f true a false b c = go (ltb a b) (ltb→lt a b) (nltb→le a b)
  where
    even : (y : Bool) → (T (not y) → a ≤ b) → b ≤ a → Rounds f (round f y (a - b) c) (0 + b) (a + 0) c
    even true h l = record { sign = true; size = a - b; is = refl; value = omega arith }
    even false h l = let m = h tt in record { sign = false; size = a - b; is = refl; value = omega arith }

    go : (x : Bool) → (T x → a < b) → (T (not x) → b ≤ a) → Rounds f (cond x (round f false (b - a) c) (round f (ltb b a) (a - b) c)) (0 + b) (a + 0) c
    go true h k = let l = h tt in record { sign = false; size = b - a; is = refl; value = omega arith }
    go false h k = even (ltb b a) (nltb→le b a) (k tt)

-- of ±a / c and ±b / d
cross_rounds : (f : Format) (s : Bool) (a c : ℕ) (t : Bool) (b d : ℕ) → Rounds f (sum f s (a * d) t (b * c) (c * d)) (gain s a * d + gain t b * c) (loss s a * d + loss t b * c) (c * d)
cross_rounds f s a c t b d = rw (← gain_mul s a d, ← gain_mul t b c, ← loss_mul s a d, ← loss_mul t b c) (sum_rounds f s (a * d) t (b * c) (c * d))

one_grows : (p n c p' n' c' d d' : ℕ) → p * c' + n' * c ≤ p' * c + n * c' → p * d * (c' * d') + n' * d' * (c * d) ≤ p' * d' * (c * d) + n * d * (c' * d')
one_grows p n c p' n' c' d d' h = omega (arith, mul-le-mul_right (d * d') h)

other_grows : (q m d q' m' d' c c' : ℕ) → q * d' + m' * d ≤ q' * d + m * d' → q * c * (c' * d') + m' * c' * (c * d) ≤ q' * c' * (c * d) + m * c * (c' * d')
other_grows q m d q' m' d' c c' h = omega (arith, mul-le-mul_right (c * c') h)

both_grow : (p n c q m d p' n' c' q' m' d' : ℕ) → p * c' + n' * c ≤ p' * c + n * c' → q * d' + m' * d ≤ q' * d + m * d'
    → (p * d + q * c) * (c' * d') + (n' * d' + m' * c') * (c * d) ≤ (p' * d' + q' * c') * (c * d) + (n * d + m * c) * (c' * d')
both_grow p n c q m d p' n' c' q' m' d' h k = simp add-mul (omega (arith, one_grows p n c p' n' c' d d' h, other_grows q m d q' m' d' c c' k))

fin_add_le : (f : Format) (s : Bool) (m : ℕ) (e : ℤ) (t : Bool) (n : ℕ) (d : ℤ) (s' : Bool) (m' : ℕ) (e' : ℤ) (t' : Bool) (n' : ℕ) (d' : ℤ)
    → T (le (fin s m e) (fin s' m' e')) → T (le (fin t n d) (fin t' n' d')) → T (le (add f (fin s m e) (fin t n d)) (add f (fin s' m' e') (fin t' n' d')))
unfolding add
fin_add_le f s m e t n d s' m' e' t' n' d' h k =
    let a = m * up e in
    let b = n * up d in
    let a' = m' * up e' in
    let b' = n' * up d' in
    rounds_le f _ _ _ _ (down e * down d) _ _ (down e' * down d')
    (cross_rounds f s a (down e) t b (down d)) (cross_rounds f s' a' (down e') t' b' (down d'))
    (mul-pos (down_pos e) (down_pos d)) (mul-pos (down_pos e') (down_pos d'))
    (both_grow (gain s a) (loss s a) (down e) (gain t b) (loss t b) (down d) (gain s' a') (loss s' a') (down e') (gain t' b') (loss t' b') (down d') (le→leq s m e s' m' e' h) (le→leq t n d t' n' d' k))

-- ---- a sum of any two values
add_low : (f : Format) (y : Float) → T (number (add f (inf true) y)) → add f (inf true) y ≡ inf true
unfolding add
add_low f nan p = absurd p
add_low f (inf true) p = refl
add_low f (inf false) p = absurd p
add_low f (fin t n d) p = refl

add_high : (f : Format) (y : Float) → T (number (add f (inf false) y)) → add f (inf false) y ≡ inf false
unfolding add
add_high f nan p = absurd p
add_high f (inf true) p = absurd p
add_high f (inf false) p = refl
add_high f (fin t n d) p = refl

add_high' : (f : Format) (x : Float) → T (number (add f x (inf false))) → add f x (inf false) ≡ inf false
unfolding add
add_high' f nan p = absurd p
add_high' f (inf true) p = absurd p
add_high' f (inf false) p = refl
add_high' f (fin t n d) p = refl

fin_add_low : (f : Format) (s : Bool) (m : ℕ) (e : ℤ) → add f (fin s m e) (inf true) ≡ inf true
unfolding add
fin_add_low f s m e = refl

pub add_le : (f : Format) (x y x' y' : Float) → T (le x x') → T (le y y') → T (number (add f x y)) → T (number (add f x' y')) → T (le (add f x y) (add f x' y'))
add_le f nan y x' y' h k p q = absurd (unfold le in h)
add_le f (inf true) y x' y' h k p q = rw (add_low f y p) (lowest (add f x' y') q)
add_le f (inf false) y nan y' h k p q = absurd (unfold le in h)
add_le f (inf false) y (inf true) y' h k p q = absurd (unfold le in h)
add_le f (inf false) y (inf false) y' h k p q = rw (add_high f y p, add_high f y' q) (le_reflexive (inf false) tt)
add_le f (inf false) y (fin s' m' e') y' h k p q = absurd (unfold le in h)
add_le f (fin s m e) nan x' y' h k p q = absurd (unfold le in k)
add_le f (fin s m e) (inf true) x' y' h k p q = rw (fin_add_low f s m e) (lowest (add f x' y') q)
add_le f (fin s m e) (inf false) x' nan h k p q = absurd (unfold le in k)
add_le f (fin s m e) (inf false) x' (inf true) h k p q = absurd (unfold le in k)
add_le f (fin s m e) (inf false) x' (inf false) h k p q = rw (add_high' f x' q) (highest (add f (fin s m e) (inf false)) p)
add_le f (fin s m e) (inf false) x' (fin t' n' d') h k p q = absurd (unfold le in k)
add_le f (fin s m e) (fin t n d) nan y' h k p q = absurd (unfold le in h)
add_le f (fin s m e) (fin t n d) (inf true) y' h k p q = absurd (unfold le in h)
add_le f (fin s m e) (fin t n d) (inf false) y' h k p q = rw (add_high f y' q) (highest (add f (fin s m e) (fin t n d)) p)
add_le f (fin s m e) (fin t n d) (fin s' m' e') nan h k p q = absurd (unfold le in k)
add_le f (fin s m e) (fin t n d) (fin s' m' e') (inf true) h k p q = absurd (unfold le in k)
add_le f (fin s m e) (fin t n d) (fin s' m' e') (inf false) h k p q = rw (add_high' f (fin s' m' e') q) (highest (add f (fin s m e) (fin t n d)) p)
add_le f (fin s m e) (fin t n d) (fin s' m' e') (fin t' n' d') h k p q = fin_add_le f s m e t n d s' m' e' t' n' d' h k

-- ---- where a sum is a number: both are above the negative infinity, or one is finite
abbrev pub risen : Float → Bool
risen nan = false
risen (inf s) = not s
risen (fin s m e) = true

fin_add_number : (f : Format) (s : Bool) (m : ℕ) (e : ℤ) (t : Bool) (n : ℕ) (d : ℤ) → T (number (add f (fin s m e) (fin t n d)))
fin_add_number f s m e t n d =
    le_left (add f (fin s m e) (fin t n d)) (add f (fin s m e) (fin t n d))
    (fin_add_le f s m e t n d s m e t n d (le_reflexive (fin s m e) tt) (le_reflexive (fin t n d) tt))

pub risen_add : (f : Format) (x y : Float) → T (risen x) → T (risen y) → T (number (add f x y))
unfolding add
risen_add f nan y p q = absurd p
risen_add f (inf true) y p q = absurd p
risen_add f (inf false) nan p q = absurd q
risen_add f (inf false) (inf true) p q = absurd q
risen_add f (inf false) (inf false) p q = tt
risen_add f (inf false) (fin t n d) p q = tt
risen_add f (fin s m e) nan p q = absurd q
risen_add f (fin s m e) (inf t) p q = tt
risen_add f (fin s m e) (fin t n d) p q = fin_add_number f s m e t n d

pub add_finite : (f : Format) (x y : Float) → T (number x) → T (finite y) → T (number (add f x y))
unfolding add
add_finite f nan y p q = absurd p
add_finite f (inf s) nan p q = absurd q
add_finite f (inf s) (inf t) p q = absurd q
add_finite f (inf s) (fin t n d) p q = tt
add_finite f (fin s m e) nan p q = absurd q
add_finite f (fin s m e) (inf t) p q = absurd q
add_finite f (fin s m e) (fin t n d) p q = fin_add_number f s m e t n d

pub risen_le : (x y : Float) → T (risen x) → T (le x y) → T (risen y)
unfolding le
risen_le nan y p h = absurd p
risen_le (inf true) y p h = absurd p
risen_le (inf false) nan p h = absurd h
risen_le (inf false) (inf true) p h = absurd h
risen_le (inf false) (inf false) p h = tt
risen_le (inf false) (fin t n d) p h = tt
risen_le (fin s m e) nan p h = absurd h
risen_le (fin s m e) (inf true) p h = absurd h
risen_le (fin s m e) (inf false) p h = tt
risen_le (fin s m e) (fin t n d) p h = tt

-- ---- less a finite value
neg_finite : (y : Float) → T (finite y) → T (finite (neg y))
unfolding neg
neg_finite nan p = absurd p
neg_finite (inf s) p = absurd p
neg_finite (fin s m e) p = tt

finite_number : (y : Float) → T (finite y) → T (number y)
finite_number nan p = absurd p
finite_number (inf s) p = tt
finite_number (fin s m e) p = tt

pub sub_le : (f : Format) (x x' y : Float) → T (finite y) → T (le x x') → T (le (sub f x y) (sub f x' y))
unfolding sub
sub_le f x x' y p h =
    let q = neg_finite y p in
    add_le f x (neg y) x' (neg y) h (le_reflexive (neg y) (finite_number (neg y) q)) (add_finite f x (neg y) (le_left x x' h) q) (add_finite f x' (neg y) (le_right x x' h) q)

-- a difference grows with the first value, and shrinks as the second grows
pub sub_le_both : (f : Format) (x y x' y' : Float) → T (le x x') → T (le y' y) → T (number (sub f x y)) → T (number (sub f x' y')) → T (le (sub f x y) (sub f x' y'))
unfolding sub
sub_le_both f x y x' y' h k p q = add_le f x (neg y) x' (neg y') h (neg_anti y' y k) p q
