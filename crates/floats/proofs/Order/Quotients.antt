-- A quotient by a positive value keeps the order, on all the values: zeros, infinities and overflow included. Assumes nothing.
use mathlib.Core.Path.{◌≡◌, refl, ap}
use Prim.Native.Nat.{ℕ, ◌+◌, ◌*◌, ◌≤◌, ◌<◌}
use native.Mathlib.Nat.{mul-le-mul_right, mul-pos}
use native.Mathlib.Omega.{arith}
use mathlib.Core.Bool.{Bool, true, false, cond}
use lib.IntN.{ℤ}
use lib.Dec.{T, ltb→lt, eqb, eqb→eq}
use lib.Ieee.{Float, nan, inf, fin, Format, up, down, round, div, le, unlike}
use lib.Ieee.Fits.{up_pos, down_pos}
use lib.Ieee.Positive.{positive, num, den}
use Rattle.floats.proofs.Order.Fractions.{gain, loss, gain_mul, loss_mul, le→leq}
use Rattle.floats.proofs.Order.Laws.{number, le_reflexive, le_left, le_right, lowest, highest}
use Rattle.floats.proofs.Order.Rounding.{round_le}

-- ---- by a positive value
pub div_inf : (f : Format) (s : Bool) (y : Float) → T (positive y) → div f (inf s) y ≡ inf s
unfolding div
div_inf f s nan p = absurd p
div_inf f s (inf t) p = absurd p
div_inf f s (fin true n d) p = absurd p
div_inf f true (fin false n d) p = refl
div_inf f false (fin false n d) p = refl

num_pos : (y : Float) → T (positive y) → 0 < num y
num_pos nan p = absurd p
num_pos (inf s) p = absurd p
num_pos (fin true n d) p = absurd p
num_pos (fin false n d) p = mul-pos (ltb→lt 0 n p) (up_pos d)

like : (s : Bool) → unlike s false ≡ s
like true = refl
like false = refl

div_fin : (f : Format) (s : Bool) (m : ℕ) (e : ℤ) (y : Float) → T (positive y) → div f (fin s m e) y ≡ round f s (m * up e * den y) (num y * down e)
unfolding div
div_fin f s m e nan p = absurd p
div_fin f s m e (inf t) p = absurd p
div_fin f s m e (fin true n d) p = absurd p
div_fin f s m e (fin false n d) p = go (eqb n 0) (eqb→eq n 0)
  where
    not_both : 0 < n → n ≡ 0 → ⊥
    not_both g e = omega arith

    go : (b : Bool) → (T b → n ≡ 0) → cond b (cond (eqb m 0) nan (inf (unlike s false))) (round f (unlike s false) (m * up e * down d) (n * up d * down e)) ≡ round f s (m * up e * down d) (n * up d * down e)
    go true h = absurd (not_both (ltb→lt 0 n p) (h tt))
    go false h = ap (λ (x : Bool). round f x (m * up e * down d) (n * up d * down e)) (like s)

shared : (p n c p' n' c' N D : ℕ) → p * c' + n' * c ≤ p' * c + n * c' → p * D * (N * c') + n' * D * (N * c) ≤ p' * D * (N * c) + n * D * (N * c')
shared p n c p' n' c' N D h = omega (arith, mul-le-mul_right (N * D) h)

fin_div_le : (f : Format) (s : Bool) (m : ℕ) (e : ℤ) (t : Bool) (n : ℕ) (d : ℤ) (y : Float) → T (positive y) → T (le (fin s m e) (fin t n d)) → T (le (div f (fin s m e) y) (div f (fin t n d) y))
fin_div_le f s m e t n d y p h =
    rw (div_fin f s m e y p, div_fin f t n d y p)
    (round_le f s (m * up e * den y) (num y * down e) t (n * up d * den y) (num y * down d) (mul-pos (num_pos y p) (down_pos e)) (mul-pos (num_pos y p) (down_pos d))
    (rw (gain_mul s (m * up e) (den y), gain_mul t (n * up d) (den y), loss_mul s (m * up e) (den y), loss_mul t (n * up d) (den y))
    (shared (gain s (m * up e)) (loss s (m * up e)) (down e) (gain t (n * up d)) (loss t (n * up d)) (down d) (num y) (den y) (le→leq s m e t n d h))))

pub div_number : (f : Format) (x y : Float) → T (positive y) → T (number x) → T (number (div f x y))
div_number f nan y p q = absurd q
div_number f (inf s) y p q = rw (div_inf f s y p) tt
div_number f (fin s m e) y p q = le_left (div f (fin s m e) y) (div f (fin s m e) y) (fin_div_le f s m e s m e y p (le_reflexive (fin s m e) tt))

pub div_le : (f : Format) (x x' y : Float) → T (positive y) → T (le x x') → T (le (div f x y) (div f x' y))
div_le f nan x' y p h = absurd (unfold le in h)
div_le f (inf true) x' y p h = rw (div_inf f true y p) (lowest (div f x' y) (div_number f x' y p (le_right (inf true) x' h)))
div_le f (inf false) nan y p h = absurd (unfold le in h)
div_le f (inf false) (inf true) y p h = absurd (unfold le in h)
div_le f (inf false) (inf false) y p h = rw (div_inf f false y p) (le_reflexive (inf false) tt)
div_le f (inf false) (fin t n d) y p h = absurd (unfold le in h)
div_le f (fin s m e) nan y p h = absurd (unfold le in h)
div_le f (fin s m e) (inf true) y p h = absurd (unfold le in h)
div_le f (fin s m e) (inf false) y p h = rw (div_inf f false y p) (highest (div f (fin s m e) y) (div_number f (fin s m e) y p tt))
div_le f (fin s m e) (fin t n d) y p h = fin_div_le f s m e t n d y p h
