-- `inequality::normal::raised` meets its contract. Assumes nothing.
use mathlib.Core.Path.{refl}
use lib.Ieee.{of_bits}
use Rattle.floats.specs.Numbers.{ratio}
use Rattle.costs.specs.Costs.{smallest_normal}
use Rattle.inequality.specs.Inner.Weights.{raised}
use Rattle.inequality.proofs.normal.raised.Goals as goal

pub returns-then-variance : goal.returns-then-variance
unfolding raised of_bits smallest_normal ratio
returns-then-variance c = rw (raised, c.if-variance.true) refl

pub returns-else-variance : goal.returns-else-variance
unfolding raised of_bits
returns-else-variance c = rw (raised, c.if-variance.false) refl
