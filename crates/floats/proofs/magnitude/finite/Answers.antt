-- `floats::magnitude::finite` meets its contract. Assumes nothing.
use lib.Ieee.{of_bits, nan_bits}
use Rattle.floats.proofs.Order.Magnitude.{below_infinity, not_below_infinity}
use Rattle.floats.proofs.magnitude.finite.Goals as goal

pub float_from_bits-t-2 : goal.float_from_bits-t-2
unfolding nan_bits
float_from_bits-t-2 c = tt

pub float_from_bits-result : goal.float_from_bits-result
unfolding nan_bits
float_from_bits-result c = tt

pub returns-then-x : goal.returns-then-x
unfolding of_bits
returns-then-x c = below_infinity c.args.x c.if-x.true

pub returns : goal.returns
unfolding of_bits
returns c = not_below_infinity c.args.x c.if-x.false
