-- The definitions at some values, by their bit patterns, run by antt. Assumes nothing.
use Prim.Native.Nat.{ℕ}
use mathlib.Core.Path.{◌≡◌, refl}
use mathlib.Core.List.{[], ◌∷◌, map}
use lib.Ieee.{Float, binary64, of_bits, to_bits, lt, ne}
use Rattle.floats.specs.MaxMin.{larger, smaller}

-- the function `f` on values, from the bit pattern `b` to a bit pattern
unfoldable pub by_bits : (Float → Float) → ℕ → ℕ
by_bits f b = to_bits binary64 (f (of_bits binary64 b))

-- the larger and the smaller of two patterns' values: the other operand of a NaN, and the first of equals, zeros of either sign among them
both : ℕ × ℕ → ℕ × ℕ
both c = (by_bits (λ (x : Float). larger x (of_bits binary64 c.1)) c.0, by_bits (λ (x : Float). smaller x (of_bits binary64 c.1)) c.0)

extremes : map both ((0x3ff0000000000000, 0x4000000000000000) ∷ (0x7ff8000000000000, 0x4000000000000000) ∷ (0x4000000000000000, 0x7ff8000000000000) ∷ (0x0, 0x8000000000000000) ∷ (0x8000000000000000, 0x0) ∷ [])
    ≡ (0x4000000000000000, 0x3ff0000000000000) ∷ (0x4000000000000000, 0x4000000000000000) ∷ (0x4000000000000000, 0x4000000000000000) ∷ (0x0, 0x0) ∷ (0x8000000000000000, 0x8000000000000000) ∷ []
unfolding both by_bits larger smaller to_bits of_bits lt ne
extremes = refl
