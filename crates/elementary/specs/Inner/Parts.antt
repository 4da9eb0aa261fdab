-- What the contracts of the private functions below `sqrt` and `ln` say: none of it is part of what those two promise. Definitions only.
use Rattle.std.specs.Prelude.{ℕ, ◌+◌, ◌-◌, ◌*◌, ◌/◌, ◌%◌, ◌^◌, ◌<◌, ◌≤◌, cond, nat_le}

-- `g` is the whole number nearest to the root of `x`: g - 1/2 < √x < g + 1/2, both sides squared. (√x is no g + 1/2, whose square is no whole number.)
abbrev pub Near : ℕ → ℕ → Type 0
Near x g = (g * g < x + g) × (x ≤ g * g + g)

-- `m` has 53 binary digits, and 2 ^ `p` is a power of two that the values of binary64 call for
abbrev pub Scaled : ℕ → ℕ → Type 0
Scaled m p = (2 ^ 52 ≤ m) × (m < 2 ^ 53) × (1022 ≤ p) × (p ≤ 3119)

-- how many units of 2 ^ -1074 the value with the bit pattern `b` is, if it is finite and above zero
unfoldable pub count_of : ℕ → ℕ
count_of b = cond (nat_le (2 ^ 52) b) ((b % 2 ^ 52 + 2 ^ 52) * 2 ^ (b / 2 ^ 52 - 1)) b
