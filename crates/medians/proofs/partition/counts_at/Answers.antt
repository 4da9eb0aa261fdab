-- `medians::partition::counts_at` meets its contract. The loop's invariant: the values so far are counted. Assumes nothing.
use mathlib.Core.Path.{refl}
use native.Mathlib.Omega.{arith}
use Rattle.medians.specs.Inner.Ranks.{count}
use Rattle.medians.proofs.CountLaws.{one_of, one_most, counted_more}
use Rattle.medians.proofs.partition.counts_at.Goals as goal

pub loop-value-init : goal.loop-value-init
unfolding count
loop-value-init c = (omega arith, omega arith, refl, refl)

pub loop-value-preserved : goal.loop-value-preserved
loop-value-preserved c =
    let i = c.loop-value.invariant in
    (omega (arith, one_most _ c.from-below.ensures), omega (arith, one_most _ c.from-upto.ensures), counted_more _ _ _ _ i.2 c.loop-value-test.true (one_of c.from-below.ensures refl), counted_more _ _ _ _ i.3 c.loop-value-test.true (one_of c.from-upto.ensures refl))
