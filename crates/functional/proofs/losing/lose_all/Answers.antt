use Rattle.std.proofs.Common.{◌≡◌, ap, ◌∙◌, length, rules}
use Rattle.search_rules.specs.Functional.{inner_ball}
use Rattle.functional.specs.Inner.Held.{slot_at, facing_at, lost_by}
use Rattle.functional.proofs.BallLaws.{balls_none, balls_met}
use Rattle.functional.proofs.losing.lose_all.Goals as goal

pub loop-slot-init : goal.loop-slot-init
unfolding lost_by
loop-slot-init c = balls_none _ _

pub loop-slot-preserved : goal.loop-slot-preserved
loop-slot-preserved c =
    let l = c.loop-slot in
    let long : length l.born ≡ 192 = search rules in
    balls_met (λ i. inner_ball (facing_at (slot_at c.args.slots.now i))) l.slot-index l.invariant long c.lose_inside-balls.ensures (c.inner_ball-ball.ensures ∙ ap inner_ball c.facing_at.ensures)
