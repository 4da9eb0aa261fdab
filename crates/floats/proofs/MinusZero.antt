-- A sum is -0 only where both its values are: so one that starts at +0 never becomes -0. No square is -0. Assumes nothing.
use mathlib.Core.Path.{◌≡◌, refl, ap, ◌∙◌}
use Prim.Native.Nat.{ℕ, zero, suc, ◌+◌, ◌-◌, ◌*◌, ◌^◌, ◌≤◌, ◌<◌}
use native.Mathlib.Nat.{mul_assoc, mul_comm, mul_right_comm, mul-pos, mul-le-mul_right, mul-lt-mul_of_pos_right, lt_of_mul-lt-mul_right, zero-lt-suc}
use native.Mathlib.Omega.{arith}
use mathlib.Core.Bool.{Bool, true, false, cond, true≢false}
use borrow.Author.Tests.{ltb-true}
use lib.Dec.{T, ltb}
use lib.IntN.{ℤ, pos, negsuc}
use lib.Pow.{pow_pos}
use lib.Ieee.{Float, nan, inf, fin, binary64, low, up, down, round, neg, sum, add, sub, mul, le, ne, fits}
use lib.Ieee.Exact.{HasValue}
use lib.Ieee.Fits.{up_pos, down_pos, neg-fits, add-fits, mul-fits}
use lib.Ieee.Scale.{finite, grid, round_val, round_under}
use Rattle.floats.specs.Numbers.{◌+ᶠ◌, ◌-ᶠ◌, ◌*ᶠ◌, ◌<ᶠ◌, +0}
use Rattle.floats.specs.MaxMin.{larger}
use Rattle.floats.specs.Inner.MinusZero.{negative_zero}
use Rattle.floats.proofs.Exact.{counted, only_zero, minus_zero_plus, either_zero_plus}
use Rattle.floats.proofs.Order.Fractions.{Leq, le→leq}
use Rattle.floats.proofs.Order.Rounding.{round_le}

-- a zero with a sign, whatever its exponent; of the values that the format holds, -0 is the only one
abbrev pub minus_zero : Float → Bool
minus_zero nan = false
minus_zero (inf s) = false
minus_zero (fin s zero e) = s
minus_zero (fin s (suc m) e) = false

pub no_minus_zero : (z : Float) → minus_zero z ≡ false → z ≡ negative_zero → ⊥
no_minus_zero z h e = true≢false (rw e at h)

-- ---- what is rounded
-- without a sign
pub plain_round : (a c : ℕ) → minus_zero (round binary64 false a c) ≡ false
plain_round a c = go (round binary64 false a c) (λ t. round_val binary64 a c (round_under binary64 a c t))
  where
    go : (z : Float) → (T (finite z) → HasValue z false (grid binary64 a c) (2 ^ low binary64)) → minus_zero z ≡ false
    go nan v = refl
    go (inf s) v = refl
    go (fin s zero e) v = (v tt).0
    go (fin s (suc m) e) v = refl

-- with a sign, where the fraction `a / c` is at least the smallest value
pub negative_round : (a c : ℕ) → 0 < c → c ≤ a * 2 ^ low binary64 → minus_zero (round binary64 true a c) ≡ false
unfolding round
negative_round a c h l = go (round binary64 true a c) (round_le binary64 true a c true 1 (2 ^ low binary64) h (pow_pos (low binary64)) (ordered (2 ^ low binary64) l))
  where
    ordered : (w : ℕ) → c ≤ a * w → Leq true a c true 1 w
    ordered w l = omega (arith, l)

    above : (u d w : ℕ) → 0 < d → Leq true (0 * u) d true (1 * 1) w → ⊥
    above u d w p h = omega (arith, p, h)

    go : (z : Float) → T (le z (round binary64 true 1 (2 ^ low binary64))) → minus_zero z ≡ false
    go nan v = refl
    go (inf s) v = refl
    go (fin false zero e) v = refl
    go (fin true zero e) v = absurd (above (up e) (down e) (2 ^ 1074) (down_pos e) (le→leq true 0 e true 1 (negsuc 1073) v))
    go (fin s (suc m) e) v = refl

-- ---- two values that the format holds differ by the smallest value at least
-- A / C below B / C, where they are X and Y of the smallest values
apart_by_smallest : (A B X Y C w : ℕ) → 0 < w → A * w ≡ X * C → B * w ≡ Y * C → A < B → C ≤ (B - A) * w
apart_by_smallest A B X Y C w h a b l =
    let c : A * w < B * w = mul-lt-mul_of_pos_right l h in
    let d : X < Y = lt_of_mul-lt-mul_right C (rw (a, b) at c) in
    let k : suc X * C ≤ Y * C = mul-le-mul_right C d in
    taken (omega (arith, k, a, b))
  where
    taken : A * w + C ≤ B * w → C ≤ (B - A) * w
    taken h =
        let D = B - A in
        let x : B ≡ A + D = omega (arith, l) in
        let y : B * w ≡ A * w + D * w = ap (λ (v : ℕ). v * w) x ∙ omega arith in
        omega (arith, h, y)

-- ---- a sum
module _ (s : Bool) (m : ℕ) (e : ℤ) (t : Bool) (n : ℕ) (d : ℤ) (f : T (fits binary64 (fin s m e))) (g : T (fits binary64 (fin t n d))) where
  abbrev A : ℕ
  A = m * up e * down d

  abbrev B : ℕ
  B = n * up d * down e

  abbrev C : ℕ
  C = down e * down d

  some : 0 < C
  some = mul-pos (down_pos e) (down_pos d)

  crossed : (a b w x c : ℕ) → a * w ≡ x * c → a * b * w ≡ x * (c * b)
  crossed a b w x c h = mul_right_comm a b w ∙ ap (λ (z : ℕ). z * b) h ∙ mul_assoc x c b

  first : (X : ℕ) × (A * 2 ^ low binary64 ≡ X * C)
  first = let j = counted s m e f in (m * 2 ^ j.0, crossed (m * up e) (down d) (2 ^ low binary64) (m * 2 ^ j.0) (down e) j.1)

  second : (Y : ℕ) × (B * 2 ^ low binary64 ≡ Y * C)
  second = let j = counted t n d g in (n * 2 ^ j.0, crossed (n * up d) (down e) (2 ^ low binary64) (n * 2 ^ j.0) (down d) j.1 ∙ ap (λ (z : ℕ). n * 2 ^ j.0 * z) (mul_comm (down d) (down e)))

  less_first : A < B → minus_zero (round binary64 true (B - A) C) ≡ false
  less_first l = negative_round (B - A) C some (apart_by_smallest A B first.0 second.0 C (2 ^ low binary64) (pow_pos (low binary64)) first.1 second.1 l)

  less_second : B < A → minus_zero (round binary64 true (A - B) C) ≡ false
  less_second l = negative_round (A - B) C some (apart_by_smallest B A second.0 first.0 C (2 ^ low binary64) (pow_pos (low binary64)) second.1 first.1 l)

  both_negative : 0 < A → minus_zero (round binary64 true (A + B) C) ≡ false
  both_negative l = negative_round (A + B) C some (wider (2 ^ low binary64) (pow_pos (low binary64)) first.1)
    where
      wider : (w : ℕ) → 0 < w → A * w ≡ first.0 * C → C ≤ (A + B) * w
      wider w h a =
          let p : C ≤ (A - 0) * w = apart_by_smallest 0 A 0 first.0 C w h (omega arith) a l in
          let q : (A - 0) * w ≤ (A + B) * w = mul-le-mul_right w (omega arith) in
          omega (arith, p, q)

fin_sum : (s : Bool) (m : ℕ) (e : ℤ) (t : Bool) (n : ℕ) (d : ℤ) → T (fits binary64 (fin s m e)) → T (fits binary64 (fin t n d)) → minus_zero (fin s m e) ≡ false → minus_zero (fin s m e +ᶠ fin t n d) ≡ false
unfolding add sum
fin_sum false m e false n d f g h = plain_round (m * up e * down d + n * up d * down e) (down e * down d)
fin_sum false m e true n d f g h = go (ltb (m * up e * down d) (n * up d * down e)) (ltb-true (m * up e * down d) (n * up d * down e))
  where
    go : (b : Bool) → (b ≡ true → m * up e * down d < n * up d * down e)
        → minus_zero (cond b (round binary64 true (n * up d * down e - m * up e * down d) (down e * down d)) (round binary64 false (m * up e * down d - n * up d * down e) (down e * down d))) ≡ false
    go true l = less_first false m e true n d f g (l refl)
    go false l = plain_round (m * up e * down d - n * up d * down e) (down e * down d)
fin_sum true zero e t n d f g h = absurd (true≢false h)
fin_sum true (suc m) e true n d f g h = both_negative true (suc m) e true n d f g (mul-pos (mul-pos (zero-lt-suc m) (up_pos e)) (down_pos d))
fin_sum true (suc m) e false n d f g h = go (ltb a b) (ltb b a) (ltb-true b a)
  where
    a : ℕ
    a = suc m * up e * down d

    b : ℕ
    b = n * up d * down e

    go : (p q : Bool) → (q ≡ true → b < a) → minus_zero (cond p (round binary64 false (b - a) (down e * down d)) (round binary64 q (a - b) (down e * down d))) ≡ false
    go true q l = plain_round (b - a) (down e * down d)
    go false true l = less_second true (suc m) e false n d f g (l refl)
    go false false l = plain_round (a - b) (down e * down d)

pub add_plain : (x y : Float) → T (fits binary64 x) → T (fits binary64 y) → minus_zero x ≡ false → minus_zero (x +ᶠ y) ≡ false
add_plain nan y f g h = unfold add in refl
add_plain (inf s) nan f g h = unfold add in refl
add_plain (inf true) (inf true) f g h = unfold add in refl
add_plain (inf true) (inf false) f g h = unfold add in refl
add_plain (inf false) (inf true) f g h = unfold add in refl
add_plain (inf false) (inf false) f g h = unfold add in refl
add_plain (inf s) (fin t n d) f g h = unfold add in refl
add_plain (fin s m e) nan f g h = unfold add in refl
add_plain (fin s m e) (inf t) f g h = unfold add in refl
add_plain (fin s m e) (fin t n d) f g h = fin_sum s m e t n d f g h

-- the same where the second is not -0: -0 and a value is that value
pub add_plain_second : (x y : Float) → T (fits binary64 x) → T (fits binary64 y) → minus_zero y ≡ false → minus_zero (x +ᶠ y) ≡ false
add_plain_second nan y f g h = add_plain nan y f g refl
add_plain_second (inf s) y f g h = add_plain (inf s) y f g refl
add_plain_second (fin true zero e) y f g h = rw (only_zero true e f, minus_zero_plus y g) h
add_plain_second (fin false zero e) y f g h = add_plain (fin false zero e) y f g refl
add_plain_second (fin s (suc m) e) y f g h = add_plain (fin s (suc m) e) y f g refl

-- ---- values other than -0, and what keeps them so
-- a value that the format holds, and is not -0
pub record Plain (y : Float) : Type 0 where
  pub held : T (fits binary64 y)
  pub other : minus_zero y ≡ false

pub plain_is_other : {y : Float} → Plain y → y ≡ negative_zero → ⊥
plain_is_other {y} p = no_minus_zero y p.other

pub plain_zero : Plain +0
plain_zero = record { held = unfold fits in tt; other = refl }

pub plain_add : {x : Float} (y : Float) → Plain x → T (fits binary64 y) → Plain (x +ᶠ y)
plain_add {x} y p g = record { held = add-fits binary64 x y; other = add_plain x y p.held g p.other }

pub plain_sub : {x : Float} (y : Float) → Plain x → T (fits binary64 y) → Plain (x -ᶠ y)
unfolding sub
plain_sub y p g = plain_add (neg y) p (neg-fits binary64 y g)

pub plain_max : {x y : Float} → Plain x → Plain y → Plain (larger x y)
unfolding larger
plain_max {x} {y} p q = go (x <ᶠ y) (ne x x)
  where
    go : (a b : Bool) → Plain (cond a y (cond b y x))
    go true b = q
    go false true = q
    go false false = p

pub plain_square : (x : Float) → Plain (x *ᶠ x)
plain_square x = record { held = mul-fits binary64 x x; other = go x }
  where
    go : (v : Float) → minus_zero (v *ᶠ v) ≡ false
    go nan = unfold mul in refl
    go (inf true) = unfold mul in refl
    go (inf false) = unfold mul in refl
    go (fin true m e) = unfold mul in plain_round (m * up e * (m * up e)) (down e * down e)
    go (fin false m e) = unfold mul in plain_round (m * up e * (m * up e)) (down e * down e)

-- a sum that starts at either zero is `y` once `y` is added
pub plain_from_either_zero : {y : Float} (z : Bool) → Plain y → fin z 0 (pos 0) +ᶠ y ≡ y
plain_from_either_zero {y} z p = either_zero_plus z y p.held (plain_is_other p)
