-- `sums::total::mean` meets its contract. The loop's invariant: `sum` is that of the readings so far. Assumes nothing.
use Rattle.std.proofs.Common.{◌≡◌, length, refl, arith}
use Rattle.sums.specs.Sums.{sum_to, mean_of}
use Rattle.sums.proofs.SumLaws.{sum_more}
use lib.Ieee.{of_bits}
use Rattle.sums.proofs.total.mean.Goals as goal

pub loop-reading-init : goal.loop-reading-init
unfolding sum_to of_bits
loop-reading-init c = refl

pub loop-reading-preserved : goal.loop-reading-preserved
loop-reading-preserved c = sum_more _ _ _ c.loop-reading.invariant

pub returns : goal.returns
unfolding mean_of
returns c =
    let e : c.loop-reading.reading-index ≡ length c.args.channel.now = omega arith in
    rw (c.loop-reading.invariant, c.nearest_u64_to_f64.ensures, e) refl
