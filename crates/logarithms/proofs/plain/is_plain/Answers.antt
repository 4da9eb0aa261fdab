-- `logarithms::plain::is_plain` meets its contract. Assumes nothing.
use mathlib.Core.Path.{refl}
use Rattle.logarithms.specs.Inner.Stages.{plain}
use lib.Ieee.{nan_bits, lt}
use Rattle.logarithms.proofs.plain.is_plain.Goals as goal

pub float_from_bits-result : goal.float_from_bits-result
unfolding nan_bits
float_from_bits-result c = tt

pub float_from_bits-result-2 : goal.float_from_bits-result-2
unfolding nan_bits
float_from_bits-result-2 c = tt

pub returns : goal.returns
unfolding plain lt
returns c = refl
