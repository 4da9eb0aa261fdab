-- `cusum::Cusum::new` meets its contract. Assumes nothing.
use mathlib.Core.Path.{refl}
use lib.Ieee.{of_bits, of_int}
use Rattle.floats.specs.Numbers.{ratio}
use Rattle.cusum.specs.Chart.{new_of}
use Rattle.cusum.proofs.Cusum.new.Goals as goal

pub returns : goal.returns
unfolding new_of ratio of_bits of_int
returns c = refl
