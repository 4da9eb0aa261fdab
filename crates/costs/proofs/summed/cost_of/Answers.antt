-- `costs::summed::cost_of` meets its contract where the segment does not fit. Assumes nothing.
use lib.Ieee.{of_bits}
use Rattle.costs.specs.Summed.{area_cost}
use Rattle.costs.proofs.summed.cost_of.Goals as goal

pub returns-then-not-segment_fits : goal.returns-then-not-segment_fits
unfolding area_cost of_bits
returns-then-not-segment_fits c = rw (area_cost, ← c.segment_fits.ensures, c.if-not-segment_fits.true)
