-- What ln 2 is the limit of: the sums of 2 / ((2j + 1)·3^(2j + 1)) for j from 0 on, which is the series of 2·artanh(1/3), the logarithm of (1 + 1/3) / (1 - 1/3). No contract cites this file; `proofs/LnTwo` derives the two parts of ln 2 from it. Definitions only.
use Rattle.std.specs.Prelude.{ℕ, zero, suc, ◌+◌, ◌*◌, ◌^◌}

-- the term for `j` is 2 / divisor j
unfoldable pub divisor : ℕ → ℕ
divisor j = (2 * j + 1) * 3 ^ (2 * j + 1)

-- the sum of the first `n` terms is numerator n / denominator n: a/b and 2/d are (a·d + 2·b) / (b·d)
unfoldable pub denominator : ℕ → ℕ
denominator zero = 1
denominator (suc n) = denominator n * divisor n

unfoldable pub numerator : ℕ → ℕ
numerator zero = 0
numerator (suc n) = numerator n * divisor n + 2 * denominator n
