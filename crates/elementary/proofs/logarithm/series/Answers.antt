-- `elementary::logarithm::series` meets its contract: the ten turns written out. Assumes nothing.
use Rattle.std.proofs.Common.{refl}
use lib.Ieee.{div, of_int, of_bits}
use Rattle.elementary.specs.Logarithm.{series}
use Rattle.elementary.proofs.logarithm.series.Goals as goal

pub returns : goal.returns
unfolding series div of_int of_bits
returns c = refl
