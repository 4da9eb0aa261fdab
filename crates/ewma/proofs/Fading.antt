-- A power of a value from 0 to 1 is at most 2^-54 where a square on its way is, and 1 less such a value is 1. Assumes nothing.
use mathlib.Core.Path.{◌≡◌, refl, subst}
use mathlib.Core.Logic.{inl, inr}
use Prim.Native.Nat.{ℕ, zero, suc, ◌+◌, ◌*◌, ◌/◌, ◌%◌, ◌^◌, ◌≤◌, ◌<◌}
use native.Mathlib.Nat.{not-suc-le-zero, eq-zero-or-pos, mul-le-mul, mul-pos, pow-suc}
use native.Mathlib.Omega.{arith}
use mathlib.Core.Bool.{true, false, true≢false}
use lib.Dec.{T, lit<}
use lib.IntN.{ℤ, pos, negsuc}
use lib.Pow.{pow_pos}
use lib.Ieee.{Float, nan, inf, fin, binary64, low, up, down, neg, round, mul, sub, le, fits}
use lib.Ieee.Back.{whole_unique}
use lib.Ieee.Exact.{HasValue}
use lib.Ieee.Fits.{down_pos, sub-fits}
use lib.Ieee.Order.{round_mono}
use lib.Ieee.Scale.{finite, grid, round_val, round_under}
use Rattle.floats.specs.Numbers.{◌-ᶠ◌, ◌*ᶠ◌, +0}
use Rattle.floats.proofs.Order.Fractions.{le→leq, leq→le}
use Rattle.floats.proofs.Order.Laws.{number, le_transitive}
use Rattle.floats.proofs.Order.Sums.{add_finite, sub_le_both}
use Rattle.elementary.specs.Power.{times_if, pow_from}
use Rattle.ewma.specs.Settled.{faint}

-- ---- values without a sign up to a bound
abbrev pub Within : Float → Float → Type 0
Within top nan = ⊥
Within top (inf s) = ⊥
Within top (fin true m e) = ⊥
Within top (fin false m e) = T (le (fin false m e) top)

abbrev pub one : Float
one = fin false 1 (pos 0)

-- what is rounded without a sign, and is not above a number, lies so
pub rounded_within : (a c p : ℕ) (g : ℤ) → 0 < c → T (le (round binary64 false a c) (fin false p g)) → Within (fin false p g) (round binary64 false a c)
rounded_within a c p g h top = go (round binary64 false a c) (round_mono binary64 0 1 a c (lit< tt) h (omega arith)) top (λ t. round_val binary64 a c (round_under binary64 a c t))
  where
    go : (z : Float) → T (le (round binary64 false 0 1) z) → T (le z (fin false p g)) → (T (finite z) → HasValue z false (grid binary64 a c) (2 ^ low binary64)) → Within (fin false p g) z
    go nan l t v = absurd (unfold le in t)
    go (inf true) l t v = absurd (unfold le round in l)
    go (inf false) l t v = absurd (unfold le in t)
    go (fin true m e) l t v = absurd (true≢false (v tt).0)
    go (fin false m e) l t v = t

-- a product is within the product of the bounds
crossed : (a c p g b d q h : ℕ) → a * g ≤ p * c → b * h ≤ q * d → a * b * (g * h) ≤ p * q * (c * d)
crossed a c p g b d q h u v = let w : a * g * (b * h) ≤ p * c * (q * d) = mul-le-mul u v in omega (arith, w)

product_within : (p : ℕ) (g : ℤ) (q : ℕ) (h : ℤ) (r : ℕ) (k : ℤ) → mul binary64 (fin false p g) (fin false q h) ≡ fin false r k
    → (x y : Float) → Within (fin false p g) x → Within (fin false q h) y → Within (fin false r k) (mul binary64 x y)
unfolding mul
product_within p g q h r k e (fin false m i) (fin false n j) u v =
    let a : m * up i * down g ≤ p * up g * down i = omega (arith, le→leq false m i false p g u) in
    let b : n * up j * down h ≤ q * up h * down j = omega (arith, le→leq false n j false q h v) in
    rounded_within (m * up i * (n * up j)) (down i * down j) r k (mul-pos (down_pos i) (down_pos j))
    (subst (λ (z : Float). T (le (round binary64 false (m * up i * (n * up j)) (down i * down j)) z)) e
    (round_mono binary64 (m * up i * (n * up j)) (down i * down j) (p * up g * (q * up h)) (down g * down h) (mul-pos (down_pos i) (down_pos j)) (mul-pos (down_pos g) (down_pos h))
    (crossed (m * up i) (down i) (p * up g) (down g) (n * up j) (down j) (q * up h) (down h) a b)))
product_within p g q h r k e nan y u v = absurd u
product_within p g q h r k e (inf s) y u v = absurd u
product_within p g q h r k e (fin true m i) y u v = absurd u
product_within p g q h r k e (fin false m i) nan u v = absurd v
product_within p g q h r k e (fin false m i) (inf s) u v = absurd v
product_within p g q h r k e (fin false m i) (fin true n j) u v = absurd v

-- of two values up to 1, and of one with a faint one
pub unit_product : (x y : Float) → Within one x → Within one y → Within one (x *ᶠ y)
unfolding mul
unit_product = product_within 1 (pos 0) 1 (pos 0) 1 (pos 0) refl

faint_product : (x y : Float) → Within one x → Within faint y → Within faint (x *ᶠ y)
unfolding mul
faint_product = product_within 1 (pos 0) 1 (negsuc 53) 1 (negsuc 53) refl

-- what is faint is at most 1
faint_unit : (x : Float) → Within faint x → Within one x
faint_unit (fin false m e) h = le_transitive (fin false m e) faint one h (unfold le in tt)
faint_unit nan h = absurd h
faint_unit (inf s) h = absurd h
faint_unit (fin true m e) h = absurd h

-- ---- powers
unit_times : (bit : ℕ) (r b : Float) → Within one r → Within one b → Within one (times_if bit r b)
unit_times zero r b h g = h
unit_times (suc bit) r b h g = unit_product r b h g

none_left : (k : ℕ) (b r : Float) → pow_from k 0 b r ≡ r
unfolding pow_from
none_left zero b r = refl
none_left (suc k) b r = refl

-- a faint base has no power that is not faint
faint_power : (k n : ℕ) (b r : Float) → n ≤ k → 0 < n → Within faint b → Within one r → Within faint (pow_from k n b r)
unfolding pow_from
faint_power zero n b r h g p q = absurd (nothing n h g)
  where
    nothing : (n : ℕ) → n ≤ 0 → 0 < n → ⊥
    nothing n h g = omega (arith, h, g)
faint_power (suc k) zero b r h g p q = absurd (not-suc-le-zero g)
faint_power (suc k) (suc n) b r h g p q =
    elim (eq-zero-or-pos (suc n / 2)) [
      | inl z ↦ last z
      | inr l ↦ faint_power k (suc n / 2) (b *ᶠ b) (times_if (suc n % 2) r b) (omega (arith, h)) l (faint_product b b (faint_unit b p) p) (unit_times (suc n % 2) r b q (faint_unit b p))
    ]
  where
    last : suc n / 2 ≡ 0 → Within faint (pow_from k (suc n / 2) (b *ᶠ b) (times_if (suc n % 2) r b))
    last z = let o : suc n % 2 ≡ 1 = omega (arith, z) in rw (z, o, none_left k (b *ᶠ b) (r *ᶠ b)) (faint_product r b q p)

-- the base `b` after `j` squares
abbrev pub squared : ℕ → Float → Float
squared zero b = b
squared (suc j) b = squared j (b *ᶠ b)

-- nor has a base up to 1 whose `j`-th square is faint a power of `2 ^ j` or more that is not
pub faded_power : (j k n : ℕ) (b r : Float) → n ≤ k → 2 ^ j ≤ n → Within one b → Within one r → Within faint (squared j b) → Within faint (pow_from k n b r)
unfolding pow_from
faded_power zero k n b r h g p q f = faint_power k n b r h g f q
faded_power (suc j) k zero b r h g p q f = absurd (none (2 ^ suc j) (pow_pos (suc j)) g)
  where
    none : (w : ℕ) → 0 < w → w ≤ 0 → ⊥
    none w l g = omega (arith, l, g)
faded_power (suc j) zero (suc n) b r h g p q f = absurd (not-suc-le-zero h)
faded_power (suc j) (suc k) (suc n) b r h g p q f =
    faded_power j k (suc n / 2) (b *ᶠ b) (times_if (suc n % 2) r b) (omega (arith, h)) (omega (arith, g, pow-suc 2 j)) (unit_product b b p p) (unit_times (suc n % 2) r b q p) f

-- ---- 1 less what is faint
-- a value with a sign is below it
pub no_less_than_one : (m : ℕ) (e : ℤ) → T (le one (fin true m e)) → ⊥
no_less_than_one m e h = below (m * up e) (down e) (down_pos e) (le→leq false 1 (pos 0) true m e h)
  where
    below : (a d : ℕ) → 0 < d → 1 * 1 * d + a * 1 ≤ 0 * 1 + 0 * d → ⊥
    below a d p l = omega (arith, p, l)

-- a value that the format holds and that is neither above 1 nor below it
only_one : (v : Float) → T (fits binary64 v) → T (le one v) → T (le v one) → v ≡ one
only_one nan f h g = absurd (unfold le in g)
only_one (inf true) f h g = absurd (unfold le in h)
only_one (inf false) f h g = absurd (unfold le in g)
only_one (fin true m e) f h g = absurd (no_less_than_one m e h)
only_one (fin false m e) f h g = whole_unique binary64 (fin false m e) one false 1 f (unfold fits in tt) (refl, same (m * up e) (down e) (le→leq false 1 (pos 0) false m e h) (le→leq false m e false 1 (pos 0) g)) (refl, refl)
  where
    same : (a d : ℕ) → 1 * 1 * d + 0 * 1 ≤ a * 1 + 0 * d → a * 1 + 0 * d ≤ 1 * 1 * d + 0 * 1 → a * 1 ≡ 1 * d
    same a d l u = omega (arith, l, u)

pub one_less_faint : (y : Float) → Within faint y → one -ᶠ y ≡ one
unfolding sub neg
one_less_faint nan h = absurd h
one_less_faint (inf s) h = absurd h
one_less_faint (fin true m e) h = absurd h
one_less_faint (fin false m e) h =
    let y = fin false m e in
    let one_one : T (le one one) = unfold le in tt in
    let no_nan : T (number (one -ᶠ y)) = add_finite binary64 one (neg y) tt tt in
    let least : one -ᶠ faint ≡ one = refl in
    let most : one -ᶠ +0 ≡ one = refl in
    only_one (one -ᶠ y) (sub-fits binary64 one y)
    (subst (λ (z : Float). T (le z (one -ᶠ y))) least (sub_le_both binary64 one faint one y one_one h tt no_nan))
    (subst (λ (z : Float). T (le (one -ᶠ y) z)) most (sub_le_both binary64 one y one +0 one_one (leq→le false 0 (pos 0) false m e (omega arith)) no_nan tt))
