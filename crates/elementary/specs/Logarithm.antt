-- The natural logarithm, to the bit. Rule 4.3. Definitions only.
use Rattle.std.specs.Prelude.{ℕ, zero, suc, ◌+◌, ◌-◌, ◌*◌, ◌^◌, true, false, cond, ℤ, pos, ◌+ℤ◌, ◌-ℤ◌, Float}
use Rattle.std.specs.Float.{nan, inf, fin, binary64}
use Rattle.std.specs.Float.Ieee.{size, of_int}
use Rattle.floats.specs.Numbers.{◌+ᶠ◌, ◌-ᶠ◌, ◌*ᶠ◌, ◌/ᶠ◌, ◌<ᶠ◌, -∞, of_whole, ratio, smallest}

-- `P` after `j` has run from n - 1 down to 0, for the n that is given: each time it becomes P·z + 1/(2j+1)
unfoldable pub series : ℕ → Float → Float → Float
series zero z P = P
series (suc j) z P = series j z (P *ᶠ z +ᶠ of_whole 1 /ᶠ of_whole (2 * j + 1))

-- ln 2 in two parts: 0.6931471805599453 with its low 21 bits cleared, and the value nearest to what ln 2 itself has beyond that
abbrev pub ln_two_high : Float
ln_two_high = ratio 2977044471 (2 ^ 32)

abbrev pub ln_two_low : Float
ln_two_low = ratio 7382048951581814 (2 ^ 85)

-- the last step: `e` times the high part is added to the sum of (2·s)·P and `e` times the low part
abbrev pub last_step : Float → Float → Float → Float
last_step e s P = e *ᶠ ln_two_high +ᶠ (of_whole 2 *ᶠ s *ᶠ P +ᶠ e *ᶠ ln_two_low)

-- by the last step, with z = s·s, and with P the sum that starts at 1/21
unfoldable pub ln_of : ℤ → Float → Float
ln_of e s = last_step (of_int binary64 e) s (series 10 (s *ᶠ s) (of_whole 1 /ᶠ of_whole 21))

-- an `M` above 1.4142135623730951 is halved and `e` is one more; then s = (M - 1) / (M + 1)
unfoldable pub ln_scaled : Float → ℤ → Float
ln_scaled M e =
    let high = ratio 14142135623730951 (10 ^ 16) <ᶠ M in
    let N = cond high (M /ᶠ of_whole 2) M in
    ln_of (cond high (e +ℤ pos 1) e) ((N -ᶠ of_whole 1) /ᶠ (N +ᶠ of_whole 1))

-- a number above zero is n of the smallest value, 2 ^ -1074; with d + 1 binary digits, n is M·2^d for an exact M in [1, 2), so the number is M·2^(d - 1074), a subnormal one too
unfoldable pub ln : Float → Float
ln nan = nan
ln (inf true) = nan
ln (inf false) = inf false
ln (fin s zero e) = -∞
ln (fin true (suc m) e) = nan
ln (fin false (suc m) e) =
    let n = smallest (suc m) e in
    let d = size n - 1 in
    ln_scaled (ratio n (2 ^ d)) (pos d -ℤ pos 1074)
