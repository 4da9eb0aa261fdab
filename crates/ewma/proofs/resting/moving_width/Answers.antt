-- `ewma::resting::moving_width` meets its contract. Assumes nothing.
use borrow.Author.Tests.{ne_eqb}
use lib.Ieee.{of_bits, of_int}
use Rattle.ewma.specs.Chart.{half_width_at}
use Rattle.ewma.specs.Settled.{width_at, moving_width}
use Rattle.ewma.proofs.resting.moving_width.Goals as goal

pub returns : goal.returns
unfolding moving_width half_width_at width_at of_bits of_int
returns c = rw (moving_width, ne_eqb _ _ c.if-place-last.false, c.width_at.ensures, c.powi-decay.ensures, half_width_at)
