-- `costs::summed::add_channels` meets its contract. The loop's invariant: `sum` is that of the first `c` channels' costs. Assumes nothing.
use Rattle.std.proofs.Common.{◌+◌, ◌*◌, refl, arith}
use lib.Ieee.{of_bits}
use Rattle.costs.specs.Summed.{area_cost_to}
use Rattle.costs.proofs.SummedLaws.{channel_added}
use Rattle.sums.proofs.ChannelLaws.{mul_room}
use Rattle.costs.proofs.summed.add_channels.Goals as goal

pub loop-c-init : goal.loop-c-init
unfolding area_cost_to of_bits
loop-c-init c = refl

pub overflow_mul-place : goal.overflow_mul-place
overflow_mul-place c = let k = c.args.channels in omega (arith, mul_room c.loop-c.c k.count (2 * (k.length + 1)) c.loop-c-test.true)

pub segment_at-requires : goal.segment_at-requires
segment_at-requires c = let k = c.args.channels in omega (arith, mul_room c.loop-c.c k.count (2 * (k.length + 1)) c.loop-c-test.true)

pub loop-c-preserved : goal.loop-c-preserved
loop-c-preserved c = channel_added _ _ _ _ _ _ _ _ _ _ c.loop-c.invariant refl c.segment_at.ensures c.segment_cost-sum.ensures
