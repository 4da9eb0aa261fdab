use mathlib.Core.Path.{refl}
use Rattle.candidate.specs.Boxes.{nothing}
use lib.Ieee.{of_bits, nan_bits}
use Rattle.candidate.proofs.boxes.nothing.Goals as goal

pub float_from_bits-result : goal.float_from_bits-result
unfolding nan_bits
float_from_bits-result c = tt

pub float_from_bits-result-2 : goal.float_from_bits-result-2
unfolding nan_bits
float_from_bits-result-2 c = tt

pub returns : goal.returns
unfolding nothing of_bits
returns c = refl
