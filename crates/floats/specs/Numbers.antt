-- binary64's operations as signs, whole numbers and decimal literals as values, and the count of the smallest value. Rule 1.1. Definitions only.
use Rattle.std.specs.Prelude.{ℕ, ◌*◌, ◌/◌, ◌^◌, Bool, true, false, ℤ, pos, Float}
use Rattle.std.specs.Float.{inf, fin, binary64}
use Rattle.std.specs.Float.Ieee.{low, up, down, add, sub, mul, div, lt, le, of_int, round}

infixl 65 ◌+ᶠ◌ ◌-ᶠ◌
infixl 70 ◌*ᶠ◌ ◌/ᶠ◌
infix 50 ◌<ᶠ◌ ◌≤ᶠ◌
-- binary64's operations, each rounded once, and its comparisons
abbrev pub ◌+ᶠ◌ : Float → Float → Float
x +ᶠ y = add binary64 x y

abbrev pub ◌-ᶠ◌ : Float → Float → Float
x -ᶠ y = sub binary64 x y

abbrev pub ◌*ᶠ◌ : Float → Float → Float
x *ᶠ y = mul binary64 x y

abbrev pub ◌/ᶠ◌ : Float → Float → Float
x /ᶠ y = div binary64 x y

abbrev pub ◌<ᶠ◌ : Float → Float → Bool
x <ᶠ y = lt x y

abbrev pub ◌≤ᶠ◌ : Float → Float → Bool
x ≤ᶠ y = le x y

-- +0, and the two infinities
abbrev pub +0 : Float
+0 = fin false 0 (pos 0)

abbrev pub +∞ : Float
+∞ = inf false

abbrev pub -∞ : Float
-∞ = inf true

-- the whole number `n` as a float
abbrev pub of_whole : ℕ → Float
of_whole n = of_int binary64 (pos n)

-- what a decimal literal stands for: the float nearest to the fraction `a / b`
unfoldable pub ratio : ℕ → ℕ → Float
unfolding round
ratio a b = round binary64 false a b

-- how many of binary64's smallest value, 2 ^ -1074, the number `m * 2 ^ e` is
abbrev pub smallest : ℕ → ℤ → ℕ
smallest m e = m * up e * 2 ^ low binary64 / down e
