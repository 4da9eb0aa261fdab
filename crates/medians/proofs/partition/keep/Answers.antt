-- `medians::partition::keep` meets its contract. The loop's invariant: the run begins with the values that were kept so far. Assumes nothing.
use mathlib.Core.Path.{refl}
use native.Mathlib.Omega.{arith}
use lib.ListN.{length-set}
use Rattle.medians.proofs.CountLaws.{one_of, one_most}
use Rattle.medians.proofs.KeepingLaws.{keeping_none, keeping_more, keeping_all}
use Rattle.medians.proofs.partition.keep.Goals as goal

pub loop-i-init : goal.loop-i-init
loop-i-init g c = (omega arith, refl, λ p h. keeping_none p)

pub loop-i-preserved : goal.loop-i-preserved
loop-i-preserved g c =
    let i = c.loop-i.invariant in
    (omega (arith, one_most _ c.from-kept.ensures), simp length-set i.1, λ p h. keeping_more p (i.2 p h) c.loop-i-test.true (one_of c.from-kept.ensures (h _ _ c.test.ensures)))

pub returns : goal.returns
returns g c = λ p h. keeping_all p (c.loop-i.invariant.2 p h) (omega arith)
