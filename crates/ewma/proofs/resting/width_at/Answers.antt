-- `ewma::resting::width_at` meets its contract. Assumes nothing.
use lib.Ieee.{of_bits, of_int}
use Rattle.ewma.specs.Settled.{width_at}
use Rattle.ewma.proofs.resting.width_at.Goals as goal

pub returns : goal.returns
unfolding width_at of_bits of_int
returns c = rw (c.sqrt.ensures, width_at)
