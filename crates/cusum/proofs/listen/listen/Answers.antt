-- `cusum::listen::listen` meets its contract. The loop's invariant: what is left to listen to gives the whole answer. Assumes nothing.
use mathlib.Core.Path.{refl, ap}
use Rattle.refusals.specs.Said.{answered}
use Rattle.cusum.specs.RunLength.{heard}
use Rattle.cusum.proofs.Hearing.{turn_over, turn_quiet, turns_over}
use Rattle.cusum.proofs.listen.listen.Goals as goal

pub loop-reading-init : goal.loop-reading-init
unfolding heard
loop-reading-init c = rw c.start.ensures refl

pub returns-then-chart-sum_of : goal.returns-then-chart-sum_of
returns-then-chart-sum_of c = ap answered (turn_over _ _ _ _ _ _ _ c.loop-reading-test.true c.step-shown.ensures (rw c.sum_of.ensures at c.if-chart-sum_of.true) c.loop-reading.invariant)

pub loop-reading-preserved : goal.loop-reading-preserved
loop-reading-preserved c = turn_quiet _ _ _ _ _ _ _ c.loop-reading-test.true c.step-shown.ensures (rw c.sum_of.ensures at c.if-chart-sum_of.false) c.loop-reading.invariant

pub returns : goal.returns
returns c = ap answered (turns_over _ _ _ _ _ _ c.loop-reading-test.false c.loop-reading.invariant)
