-- The square root, correctly rounded, by squares of whole numbers. Rule 4.1. Definitions only.
use Rattle.std.specs.Prelude.{ℕ, zero, suc, ◌+◌, ◌-◌, ◌*◌, ◌/◌, ◌^◌, true, false, cond, nat_le, Float}
use Prim.Native.Nat.{compare}
use Rattle.std.specs.Float.{nan, inf, fin, binary64}
use Rattle.std.specs.Float.Ieee.{prec, low, size, nearest, units}
use Rattle.floats.specs.Numbers.{smallest}

abbrev pub sq : ℕ → ℕ
sq n = n * n

-- the largest r from `a` up to a + 2 ^ k - 1 whose square is at most `n`, for an `a` whose own square is: its `k` binary digits, the highest first
unfoldable pub root_from : ℕ → ℕ → ℕ → ℕ
root_from zero a n = a
root_from (suc k) a n = root_from k (cond (nat_le (sq (a + 2 ^ k)) n) (a + 2 ^ k) a) n

-- the whole root of `n`: the largest r with r * r ≤ n
unfoldable pub whole_root : ℕ → ℕ
unfolding root_from
whole_root n = root_from (size n / 2 + 1) 0 n

-- the value nearest to the root of `n`, both in units of the smallest value: of the whole root r the 53 leading digits, q, are kept and k dropped, and q * 2 ^ k or (q + 1) * 2 ^ k is taken, by comparing squares with their middle; at a tie the even one
unfoldable pub near_root : ℕ → Float
unfolding whole_root size units
near_root n =
    let r = whole_root n in
    let k = size r - prec binary64 in
    let q = r / 2 ^ k in
    units binary64 false (nearest q (compare (4 * n) (sq ((2 * q + 1) * 2 ^ k)))) k

-- NaN and negatives give NaN; zeros and +infinity are themselves; a number that is n units of 2 ^ -1074 has a root of √(n * 2 ^ 1074) units
unfoldable pub sqrt : Float → Float
unfolding near_root
sqrt nan = nan
sqrt (inf s) = cond s nan (inf false)
sqrt (fin s zero e) = fin s zero e
sqrt (fin true (suc m) e) = nan
sqrt (fin false (suc m) e) = near_root (smallest (suc m) e * 2 ^ low binary64)
