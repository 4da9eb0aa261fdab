-- `elementary::logarithm::ln_last_step` meets its contract: the two constants have the bits of the parts of ln 2. Assumes nothing.
use Rattle.std.proofs.Common.{refl}
use lib.Ieee.{of_int, of_bits, nan_bits}
use Rattle.floats.specs.Numbers.{ratio}
use Rattle.elementary.proofs.logarithm.ln_last_step.Goals as goal

pub float_from_bits-high : goal.float_from_bits-high
unfolding nan_bits
float_from_bits-high c = tt

pub float_from_bits-low : goal.float_from_bits-low
unfolding nan_bits
float_from_bits-low c = tt

pub returns : goal.returns
unfolding ratio of_int of_bits
returns c = refl
