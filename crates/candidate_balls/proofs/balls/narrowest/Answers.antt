use Rattle.candidate_balls.specs.Losing.{narrowest_in}
use Rattle.std.proofs.Common.{refl, ◌∙◌, arith}
use Rattle.candidate_balls.proofs.LosingLaws.{narrower, not_narrower}
use Rattle.candidate_balls.proofs.balls.narrowest.Goals as goal
use Rattle.candidate_balls.proofs.balls.narrowest.Goals.{then-ahead, else-ahead}

pub loop-i-init : goal.loop-i-init
unfolding narrowest_in
loop-i-init c = (omega arith, refl)

pub loop-i-preserved : goal.loop-i-preserved
loop-i-preserved c =
    elim c.if-ahead.branch [
      | then-ahead w ↦ (omega arith, w.least-is ∙ narrower _ _ _ _ c.loop-i.auto.i c.loop-i.invariant.1 c.ahead.ensures w.if-ahead.true)
      | else-ahead w ↦ (omega arith, w.least-is ∙ not_narrower _ _ _ _ c.loop-i.auto.i c.loop-i.invariant.1 c.ahead.ensures w.if-ahead.false)
    ]
