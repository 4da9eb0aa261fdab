-- Powers with a whole exponent, by right-to-left squaring. Rule 4.2. Definitions only.
use Rattle.std.specs.Prelude.{ℕ, zero, suc, ◌/◌, ◌%◌, Float}
use Rattle.floats.specs.Numbers.{◌*ᶠ◌, of_whole}

-- `result`, multiplied by `base` if the bit is 1
abbrev pub times_if : ℕ → Float → Float → Float
times_if zero result base = result
times_if (suc bit) result base = result *ᶠ base

-- for each bit of `n`, the lowest first: multiply `result` by `base` if it is set, then square `base`; `k` is at least the number of bits
unfoldable pub pow_from : ℕ → ℕ → Float → Float → Float
pow_from zero n base result = result
pow_from (suc k) zero base result = result
pow_from (suc k) (suc n) base result = pow_from k (suc n / 2) (base *ᶠ base) (times_if (suc n % 2) result base)

-- `x` to the power `n`: the result is 1 at first
unfoldable pub powi : Float → ℕ → Float
powi x n = pow_from n n x (of_whole 1)
