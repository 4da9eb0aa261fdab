-- The second power of any value, NaN and the infinities among them, is its product with itself. Assumes nothing.
use Rattle.std.proofs.Common.{◌≡◌}
use lib.Ieee.{Float, binary64, of_int}
use lib.Ieee.Fits.{mul-fits}
use Rattle.floats.specs.Numbers.{◌*ᶠ◌}
use Rattle.floats.proofs.Exact.{one_times}
use Rattle.elementary.specs.Power.{pow_from, powi}

pub powi_two : (x : Float) → powi x 2 ≡ x *ᶠ x
unfolding powi pow_from of_int
powi_two x = one_times (x *ᶠ x) (mul-fits binary64 x x)
