-- The Normal cost by the variance: the logarithm of the smallest normal number is the one whose bits stand in the code. Assumes nothing.
use Rattle.std.proofs.Common.{◌≡◌, true, false, refl}
use lib.Ieee.{Float, of_bits, binary64, size, add, sub, mul, div, lt, of_int}
use Rattle.floats.specs.Numbers.{◌*ᶠ◌, ◌/ᶠ◌, ◌≤ᶠ◌, +0, ratio}
use Rattle.elementary.specs.Logarithm.{ln, ln_scaled, ln_of, series}
use Rattle.costs.specs.Costs.{l2_cost, smallest_normal, normal_cost}
use Rattle.costs.specs.declared.Segment.{Segment}

pub least_cost : of_bits binary64 0xc086232bdd7abcd2 ≡ ln smallest_normal
unfolding of_bits smallest_normal ln ln_scaled ln_of series ratio add sub mul div lt of_int size
least_cost = refl

pub low_variance : (s : Segment) (q : Float) → q ≡ l2_cost s → (q /ᶠ s.length ≤ᶠ +0) ≡ true → s.length *ᶠ of_bits binary64 0xc086232bdd7abcd2 ≡ normal_cost s
unfolding normal_cost
low_variance s q e f = rw (normal_cost, ← e, f, least_cost)

pub high_variance : (s : Segment) (q l : Float) → q ≡ l2_cost s → (q /ᶠ s.length ≤ᶠ +0) ≡ false → l ≡ ln (q /ᶠ s.length) → s.length *ᶠ l ≡ normal_cost s
unfolding normal_cost
high_variance s q l e f g = rw (normal_cost, ← e, f, g)
