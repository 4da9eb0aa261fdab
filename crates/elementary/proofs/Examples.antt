-- The definitions at some values, by their bit patterns, run by antt: one table a function, each under a single statement. Assumes nothing.
use Rattle.std.proofs.Common.{◌≡◌, ℕ, [], ◌∷◌, map, refl}
use lib.Ieee.{Float, of_bits, to_bits, size, add, sub, mul, div, lt, of_int}
use Rattle.floats.specs.Numbers.{ratio}
use Rattle.floats.proofs.Examples.{by_bits}
use Rattle.elementary.specs.Root.{sqrt}
use Rattle.elementary.specs.Power.{powi, pow_from}
use Rattle.elementary.specs.Logarithm.{ln, ln_scaled, ln_of, series}

-- 1, 2, 3, 4, 0.25, 0.1, 1e300, the largest, the smallest normal, the smallest and the largest subnormal, infinity, -0, +0; negatives and NaN
roots : map (by_bits sqrt) (0x3ff0000000000000 ∷ 0x4000000000000000 ∷ 0x4008000000000000 ∷ 0x4010000000000000 ∷ 0x3fd0000000000000 ∷ 0x3fb999999999999a ∷ 0x7e37e43c8800759c ∷ 0x7fefffffffffffff ∷ 0x10000000000000 ∷ 0x1 ∷ 0xfffffffffffff ∷ 0x7ff0000000000000 ∷ 0x8000000000000000 ∷ 0x0 ∷ 0xfff0000000000000 ∷ 0xbff0000000000000 ∷ 0x8000000000000001 ∷ 0x7ff0000000000001 ∷ [])
    ≡ 0x3ff0000000000000 ∷ 0x3ff6a09e667f3bcd ∷ 0x3ffbb67ae8584caa ∷ 0x4000000000000000 ∷ 0x3fe0000000000000 ∷ 0x3fd43d136248490f ∷ 0x5f138d352e5096af ∷ 0x5fefffffffffffff ∷ 0x2000000000000000 ∷ 0x1e60000000000000 ∷ 0x1fffffffffffffff ∷ 0x7ff0000000000000 ∷ 0x8000000000000000 ∷ 0x0 ∷ 0x7ff8000000000000 ∷ 0x7ff8000000000000 ∷ 0x7ff8000000000000 ∷ 0x7ff8000000000000 ∷ []
unfolding by_bits sqrt to_bits of_bits
roots = refl

-- 1, 2, the number nearest to e, 1.4142135623730951 and the next one, the smallest and the largest subnormal, the smallest normal, the largest, the last below 1, 3, 2 ^ -1000, 2 ^ 33; zeros, infinities, -1 and NaN
logarithms : map (by_bits ln) (0x3ff0000000000000 ∷ 0x4000000000000000 ∷ 0x4005bf0a8b145769 ∷ 0x3ff6a09e667f3bcd ∷ 0x3ff6a09e667f3bce ∷ 0x1 ∷ 0xfffffffffffff ∷ 0x10000000000000 ∷ 0x7fefffffffffffff ∷ 0x3fefffffffffffff ∷ 0x4008000000000000 ∷ 0x0170000000000000 ∷ 0x4200000000000000 ∷ 0x0 ∷ 0x8000000000000000 ∷ 0x7ff0000000000000 ∷ 0xfff0000000000000 ∷ 0xbff0000000000000 ∷ 0xfff8000000000000 ∷ [])
    ≡ 0x0 ∷ 0x3fe62e42fefa39ef ∷ 0x3ff0000000000000 ∷ 0x3fd62e42fefa39f1 ∷ 0x3fd62e42fefa39f3 ∷ 0xc0874385446d71c3 ∷ 0xc086232bdd7abcd2 ∷ 0xc086232bdd7abcd2 ∷ 0x40862e42fefa39ef ∷ 0xbca0000000000000 ∷ 0x3ff193ea7aad030b ∷ 0xc085a92d6d005c94 ∷ 0x4036dfb516f20bbf ∷ 0xfff0000000000000 ∷ 0xfff0000000000000 ∷ 0x7ff0000000000000 ∷ 0x7ff8000000000000 ∷ 0x7ff8000000000000 ∷ 0x7ff8000000000000 ∷ []
unfolding by_bits to_bits of_bits ln ln_scaled ln_of series ratio add sub mul div lt of_int size
logarithms = refl

-- 0.8 squared and to the power 8192, 0.9999 to an odd power, -3 cubed, infinity to the power 0, 0.1 to the power 5
power : ℕ × ℕ → ℕ
power c = by_bits (λ (x : Float). powi x c.1) c.0

powers : map power ((0x3fe999999999999a, 2) ∷ (0x3fe999999999999a, 8192) ∷ (0x3fefff2e48e8a71e, 8191) ∷ (0xc008000000000000, 3) ∷ (0x7ff0000000000000, 0) ∷ (0x3fb999999999999a, 5) ∷ [])
    ≡ 0x3fe47ae147ae147c ∷ 0x0 ∷ 0x3fdc363bd82ed618 ∷ 0xc03b000000000000 ∷ 0x3ff0000000000000 ∷ 0x3ee4f8b588e368f4 ∷ []
unfolding power by_bits powi pow_from to_bits of_bits mul of_int
powers = refl
