-- A square root is at or above 0, or NaN. Assumes nothing.
use Rattle.std.proofs.Common.{ℕ, zero, suc, ◌+◌, ◌-◌, ◌*◌, ◌/◌, ◌^◌, true, false, T}
use Prim.Native.Nat.{compare}
use lib.Ieee.{Float, nan, inf, fin, binary64, prec, low, size, nearest, le}
use Rattle.floats.specs.Numbers.{smallest}
use Rattle.floats.proofs.Order.Rounding.{clear, units_clear}
use Rattle.floats.proofs.Order.FromZero.{FromZero, zero_from_zero, clear_from_zero}
use Rattle.elementary.specs.Root.{sq, whole_root, near_root, sqrt}

near_clear : (n : ℕ) → T (clear (near_root n))
unfolding near_root
near_clear n =
    let k = size (whole_root n) - prec binary64 in
    let q = whole_root n / 2 ^ k in
    units_clear binary64 (nearest q (compare (4 * n) (sq ((2 * q + 1) * 2 ^ k)))) k

pub root_from_zero : (x : Float) → FromZero (sqrt x)
unfolding sqrt
root_from_zero nan = λ n. absurd n
root_from_zero (inf true) = λ n. absurd n
root_from_zero (inf false) = λ _. unfold le in tt
root_from_zero (fin s zero e) = zero_from_zero s e
root_from_zero (fin true (suc m) e) = λ n. absurd n
root_from_zero (fin false (suc m) e) = let n = smallest (suc m) e * 2 ^ low binary64 in clear_from_zero (near_root n) (near_clear n)
