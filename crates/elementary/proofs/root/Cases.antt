-- `sqrt` by cases: at a value that is n of the smallest values, at the infinity, at a zero, and at what is NaN or negative. Assumes nothing.
use Rattle.std.proofs.Common.{◌≡◌, ℕ, ◌*◌, ◌^◌, ◌<◌, true, false, sym, ap, ◌∙◌, inl, inr}
use lib.Ieee.{Float, nan, inf, eq, lt}
use lib.Ieee.Exact.{HasValue}
use Rattle.floats.specs.Numbers.{+0}
use Rattle.elementary.specs.Inner.Parts.{count_of}
use Rattle.elementary.specs.Root.{sqrt, near_root}
use Rattle.elementary.proofs.parts.Values.{Pattern, written}
use Rattle.floats.proofs.Order.Zero.{equal_to_zero, neither}

pub sqrt_of_value : (x : Float) (n : ℕ) → HasValue x false n (2 ^ 1074) → 0 < n → sqrt x ≡ near_root (n * 2 ^ 1074)
unfolding sqrt
sqrt_of_value x n h p =
    let w = written x n h p in
    ap sqrt w.1.1.0 ∙ ap (λ (z : ℕ). near_root (z * 2 ^ 1074)) w.1.1.1

pub sqrt_of_pattern : (x : Float) (b : ℕ) → Pattern x b → sqrt x ≡ near_root (count_of b * 2 ^ 1074)
sqrt_of_pattern x b p = sqrt_of_value x (count_of b) p.count p.counted

pub sqrt_infinite : (x : Float) → x ≡ inf false → x ≡ sqrt x
unfolding sqrt
sqrt_infinite x e = e ∙ ap sqrt (sym e)

pub sqrt_zero : (x : Float) → eq x +0 ≡ true → x ≡ sqrt x
unfolding sqrt
sqrt_zero x h = let z = equal_to_zero x h in z.1.1 ∙ ap sqrt (sym z.1.1)

pub sqrt_negative : (x : Float) → lt +0 x ≡ false → eq x +0 ≡ false → nan ≡ sqrt x
unfolding sqrt
sqrt_negative x h k = elim (neither x h k) [
  | inl e ↦ ap sqrt (sym e)
  | inr r ↦ elim r [ inl e ↦ ap sqrt (sym e) | inr f ↦ ap sqrt (sym f.1.1) ]
]
