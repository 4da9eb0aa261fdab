-- What the private functions below `ln_each` promise one another: plain values, their quotients, and the sums for those. No public contract cites this file. Definitions only.
use Rattle.std.specs.Prelude.{ℕ, ◌+◌, ◌/◌, ◌%◌, ◌^◌, ◌≤◌, ◌<◌, ◌≡◌, Bool, true, ◌&&◌, List, pos, ◌-ℤ◌, length, get_or, Float}
use Rattle.std.specs.Float.{nan, binary64}
use Rattle.std.specs.Float.Ieee.{of_bits, to_bits, of_int}
use Rattle.floats.specs.Numbers.{◌-ᶠ◌, ◌+ᶠ◌, ◌*ᶠ◌, ◌/ᶠ◌, ◌<ᶠ◌, of_whole}
use Rattle.elementary.specs.Logarithm.{series}

-- `v` is finite and above the largest subnormal value
unfoldable pub plain : Float → Bool
plain v = (of_bits binary64 0x000f_ffff_ffff_ffff <ᶠ v) && (v <ᶠ of_bits binary64 0x7ff0_0000_0000_0000)

-- the bit pattern of `v`, with a sum that carries into the exponent where the significand is above 1.4142135623730951
abbrev pub carried_of : Float → ℕ
carried_of v = to_bits binary64 v + 0x0009_5f61_9980_c432

-- the exponent of `v`, one more where the sum carried
unfoldable pub exponent_of : Float → Float
exponent_of v = of_int binary64 (pos (carried_of v / 2 ^ 52 + 1073) -ℤ pos 2096)

-- (M - 1) / (M + 1), for the `M` that is given
abbrev pub quotient_by : Float → Float
quotient_by M = (M -ᶠ of_whole 1) /ᶠ (M +ᶠ of_whole 1)

-- `quotient_by` of the significand of `v`, halved where the sum carried
unfoldable pub quotient_of : Float → Float
quotient_of v = quotient_by (of_bits binary64 (carried_of v % 2 ^ 52 + 0x3fe6_a09e_667f_3bce))

-- `P` is the sum for the quotient `s` with `k` terms still to come
unfoldable pub Begun : ℕ → Float → Float → Type 0
Begun k s P = series k (s *ᶠ s) P ≡ series 10 (s *ᶠ s) (of_whole 1 /ᶠ of_whole 21)

-- `s` is the quotient of `v`
abbrev pub Split : Float → Float → Type 0
Split v s = s ≡ quotient_of v

-- `R` holds of the values of `xs` and `ys` at each of the first `count` indices
pub record Each (R : Float → Float → Type 0) (count : ℕ) (xs ys : List Float) : Type 0 where
  pub each : (i : ℕ) → i < count → R (get_or xs i nan) (get_or ys i nan)

-- the first `count` values of `xs` are plain
pub record Plain (count : ℕ) (xs : List Float) : Type 0 where
  pub each : (i : ℕ) → i < count → plain (get_or xs i nan) ≡ true

-- what the last stage needs: `values` that are plain, their quotients in `ratios`, and the sums for those in `sums`
pub record Ready (values ratios sums : List Float) : Type 0 where
  pub all_plain : Plain (length values) values
  pub split : Each Split (length values) values ratios
  pub summed : Each (Begun 0) (length values) ratios sums
  pub ratios_reach : length values ≤ length ratios
  pub sums_reach : length values ≤ length sums

-- the first `n` values of `xs` are `f 0`, `f 1`, .., `f (n - 1)`
pub record Filled (f : ℕ → Float) (n : ℕ) (xs : List Float) : Type 0 where
  pub each : (i : ℕ) → i < n → get_or xs i nan ≡ f i

-- `after` holds the first `n` values of `group` at the indices from `place` up to `place + n`, and what `before` held below `place`
pub record Put (place n : ℕ) (group before after : List Float) : Type 0 where
  pub stored : (i : ℕ) → i < n → get_or after (place + i) nan ≡ get_or group i nan
  pub same : (i : ℕ) → i < place → get_or after i nan ≡ get_or before i nan
