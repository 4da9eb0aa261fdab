-- `costs::segments::normal_cost` meets its contract, by the variance. Assumes nothing.
use lib.Ieee.{nan_bits, of_bits}
use Rattle.costs.proofs.CostLaws.{low_variance, high_variance}
use Rattle.costs.proofs.segments.normal_cost.Goals as goal

pub float_from_bits-result : goal.float_from_bits-result
unfolding nan_bits
float_from_bits-result c = tt

pub returns-then-variance : goal.returns-then-variance
unfolding of_bits
returns-then-variance c = low_variance _ _ c.l2_cost.ensures c.if-variance.true

pub returns-else-variance : goal.returns-else-variance
unfolding of_bits
returns-else-variance c = high_variance _ _ _ c.l2_cost.ensures c.if-variance.false c.ln.ensures
