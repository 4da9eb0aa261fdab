-- `ranges::range_of` meets its contract. The loop's invariant: what is left to come, taken in, gives what all readings give. Assumes nothing.
use Rattle.std.proofs.Common.{rules}
use lib.Ieee.{of_bits}
use Rattle.ranges.proofs.RangeLaws.{taken_whole}
use Rattle.ranges.proofs.range_of.Goals as goal

pub loop-block-init : goal.loop-block-init
unfolding of_bits
loop-block-init c = (search rules, search rules)

pub returns : goal.returns
returns c = let i = c.loop-block.invariant in taken_whole _ _ _ i.0 c.in-None.ensures.steps.1.0
