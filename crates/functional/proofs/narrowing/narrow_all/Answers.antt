use Rattle.functional.proofs.NarrowLaws.{narrowed_none, narrowed_more}
use Rattle.functional.proofs.narrowing.narrow_all.Goals as goal

pub loop-j-init : goal.loop-j-init
loop-j-init c = narrowed_none _ _ _ _

pub loop-j-preserved : goal.loop-j-preserved
loop-j-preserved c = narrowed_more c.loop-j.invariant c.loop-j-test.true c.settle-kept.ensures
