-- `medians::partition::count_of` meets its contract. The loop's invariant: the values so far are counted. Assumes nothing.
use mathlib.Core.Path.{refl}
use native.Mathlib.Omega.{arith}
use Rattle.medians.specs.Inner.Ranks.{count}
use Rattle.medians.proofs.CountLaws.{one_of, one_most, counted_more}
use Rattle.medians.proofs.partition.count_of.Goals as goal

pub loop-value-init : goal.loop-value-init
unfolding count
loop-value-init g c = (omega arith, λ p h. refl)

pub loop-value-preserved : goal.loop-value-preserved
loop-value-preserved g c =
    let i = c.loop-value.invariant in
    (omega (arith, one_most _ c.from-count.ensures), λ p h. counted_more p _ _ _ (i.1 p h) c.loop-value-test.true (one_of c.from-count.ensures (h _ _ c.test.ensures)))
