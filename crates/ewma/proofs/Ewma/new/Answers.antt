-- `ewma::Ewma::new` meets its contract. Assumes nothing.
use mathlib.Core.Path.{refl}
use lib.Ieee.{of_bits, of_int}
use Rattle.floats.specs.Numbers.{ratio}
use Rattle.ewma.specs.Chart.{new_of}
use Rattle.ewma.proofs.Ewma.new.Goals as goal

pub returns : goal.returns
unfolding new_of ratio of_bits of_int
returns c = refl
