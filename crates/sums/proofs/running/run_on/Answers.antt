-- `sums::running::run_on` meets its contract. The loop's invariant: the sums of 0 to `i` readings are written. Assumes nothing.
use Rattle.std.proofs.Common.{refl, length-set}
use lib.Ieee.{of_bits}
use Rattle.sums.specs.Sums.{centred_to, squares_to}
use Rattle.sums.proofs.SumLaws.{centred_more, squares_more, summed_none, summed_more, summed_here}
use Rattle.sums.proofs.running.run_on.Goals as goal

pub loop-i-init : goal.loop-i-init
unfolding centred_to squares_to of_bits
loop-i-init c = (refl, refl, summed_here {x = c.args.area.now} (summed_none _ _ _ _ _ _ _ _ c.requires refl refl refl))

pub loop-i-preserved : goal.loop-i-preserved
loop-i-preserved c =
    let l = c.loop-i in
    let sum = centred_more _ _ _ _ l.invariant.0 in
    let square = squares_more _ _ _ _ l.invariant.1 in
    (sum, square, summed_more _ _ _ _ _ _ _ _ _ _ _ l.invariant.2 (rw l.auto.area (simp length-set c.requires)) c.loop-i-test.true refl refl sum square)
