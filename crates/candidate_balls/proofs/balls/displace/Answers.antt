use Rattle.candidate_balls.proofs.LosingLaws.{displaced_not, displaced_so}
use Rattle.candidate_balls.proofs.balls.displace.Goals as goal

pub returns-then-ball-balls : goal.returns-then-ball-balls
returns-then-ball-balls c = displaced_not _ _ _ _ _ c.narrowest-i.ensures.0 c.if-ball-balls.true

pub returns : goal.returns
returns c = displaced_so _ _ _ _ _ c.narrowest-i.ensures.0 c.if-ball-balls.false c.copy_last.ensures c.stored.ensures.first c.stored.ensures.second c.stored.ensures.radius c.put_ball.ensures
