-- The check of a guess: with g = a * 2 ^ 27 + b, the distance of g * g to m * 2 ^ 52 in three steps of 64 bits, and what it says of the nearest root. Assumes nothing.
use Rattle.std.proofs.Common.{◌≡◌, ℕ, zero, suc, ◌+◌, ◌*◌, ◌/◌, ◌%◌, ◌^◌, ◌<◌, ◌≤◌, sym, ap, ◌∙◌, subst, mod-eq_of_lt, mul-le-mul, mul_right_comm, arith}
use native.Mathlib.Nat.{mul-mul-mul_comm}
use Rattle.elementary.specs.Inner.Parts.{Near}
use Rattle.elementary.proofs.root.Digits.{square_sum}

-- the upper and the lower half of a guess
abbrev pub upper : ℕ → ℕ
upper g = g / 2 ^ 27

abbrev pub lower : ℕ → ℕ
lower g = g % 2 ^ 27

pub upper_square : (g : ℕ) → g ≤ 2 ^ 53 → upper g * upper g ≤ 2 ^ 52
upper_square g h = let a : upper g ≤ 2 ^ 26 = omega arith in mul-le-mul {n₁ = upper g} {m₁ = upper g} {n₂ = 2 ^ 26} {m₂ = 2 ^ 26} a a

pub halves_product : (g : ℕ) → g ≤ 2 ^ 53 → upper g * lower g ≤ 2 ^ 53
halves_product g h = mul-le-mul {n₁ = upper g} {m₁ = lower g} {n₂ = 2 ^ 26} {m₂ = 2 ^ 27} (omega arith) (omega arith)

pub lower_square : (g : ℕ) → lower g * lower g ≤ 2 ^ 54
lower_square g = let b : lower g ≤ 2 ^ 27 = omega arith in mul-le-mul {n₁ = lower g} {m₁ = lower g} {n₂ = 2 ^ 27} {m₂ = 2 ^ 27} b b

big_square : (a b : ℕ) → (a * 2 ^ 27 + b) * (a * 2 ^ 27 + b) ≡ a * a * 2 ^ 54 + a * b * 2 ^ 28 + b * b
big_square a b = square_sum (a * 2 ^ 27) b ∙ omega (arith, mul-mul-mul_comm a (2 ^ 27) a (2 ^ 27), mul_right_comm a (2 ^ 27) b)

exact : (x y : ℕ) → x < 2 ^ 64 → x % 2 ^ 64 ≡ y → x ≡ y
exact x y h e = sym (mod-eq_of_lt h) ∙ e

pub distance : (m g d e r : ℕ) → g ≤ 2 ^ 53 → (d + upper g * upper g * 4) % 2 ^ 64 ≡ m → d < 2 ^ 39 → (e + upper g * lower g) % 2 ^ 64 ≡ d * 2 ^ 24 → e < 2 ^ 35
    → (r + lower g * lower g) % 2 ^ 64 ≡ e * 2 ^ 28 → r ≤ 5 * g + 6 → m * 2 ^ 52 ≡ g * g + r
distance m g d e r hg ed hd ee he er hr =
    let a = upper g in
    let b = lower g in
    let x : d + a * a * 4 ≡ m = exact _ _ (omega (arith, upper_square g hg)) ed in
    let y : e + a * b ≡ d * 2 ^ 24 = exact _ _ (omega (arith, halves_product g hg)) ee in
    let z : r + b * b ≡ e * 2 ^ 28 = exact _ _ (omega (arith, lower_square g)) er in
    let w : g ≡ a * 2 ^ 27 + b = omega arith in
    let q : g * g ≡ a * a * 2 ^ 54 + a * b * 2 ^ 28 + b * b = ap (λ (k : ℕ). k * k) w ∙ big_square a b in
    finish m (g * g) (a * a) (a * b) (b * b) d e r x y z q
  where
    finish : (m s p q t d e r : ℕ) → d + p * 4 ≡ m → e + q ≡ d * 2 ^ 24 → r + t ≡ e * 2 ^ 28 → s ≡ p * 2 ^ 54 + q * 2 ^ 28 + t → m * 2 ^ 52 ≡ s + r
    finish m s p q t d e r h₁ h₂ h₃ h₄ = omega arith

-- the nearest root by the distance
pub guess_near : (x g r : ℕ) → 0 < x → x ≡ g * g + r → r ≤ g → Near x g
guess_near x zero r p e h = (omega arith, omega arith)
guess_near x (suc g) r p e h = (omega (arith, e), omega (arith, e))

pub next_near : (x g r : ℕ) → x ≡ g * g + r → g < r → r ≤ 3 * g + 2 → Near x (g + 1)
next_near x g r e l h = (omega (arith, e, square_sum g 1), omega (arith, e, square_sum g 1))

pub second_near : (x g r : ℕ) → x ≡ g * g + r → 3 * g + 2 < r → r ≤ 5 * g + 6 → Near x (g + 1 + 1)
second_near x g r e l h =
    let s = square_sum g 2 in
    subst (λ (k : ℕ). Near x k) (omega arith) (two x g r e l h)
  where
    two : (x g r : ℕ) → x ≡ g * g + r → 3 * g + 2 < r → r ≤ 5 * g + 6 → Near x (g + 2)
    two x g r e l h = (omega (arith, e, square_sum g 2), omega (arith, e, square_sum g 2))
