use Rattle.std.proofs.Common.{sym, ◌∙◌}
use lib.Ieee.{of_bits}
use Rattle.candidate_balls.proofs.LosingLaws.{room_fits, lost_not, lost_empty, lost_more, lost_full}
use Rattle.candidate_balls.proofs.balls.lose_inside.Goals as goal
use Rattle.candidate_balls.proofs.balls.lose_inside.Goals.{then-not-has_room-via-then-not-has_room, then-not-has_room-via-else-not-has_room+then-ball}

pub returns-then-not-has_room : goal.returns-then-not-has_room
unfolding of_bits
returns-then-not-has_room c =
    elim c.then-not-has_room.branch [
      | then-not-has_room-via-then-not-has_room w ↦ lost_not (sym c.has_room.ensures ∙ w.if-not-has_room.true)
      | then-not-has_room-via-else-not-has_room+then-ball w ↦ lost_empty (sym c.has_room.ensures ∙ w.if-not-has_room.false) w.if-ball.true
    ]

pub put_ball-requires : goal.put_ball-requires
put_ball-requires c = ((room_fits _ _ _ (sym c.has_room.ensures ∙ c.if-not-has_room.false)).0, c.if-count-lt-LOSING_BALLS.true)

pub returns-then-count-lt-LOSING_BALLS : goal.returns-then-count-lt-LOSING_BALLS
unfolding of_bits
returns-then-count-lt-LOSING_BALLS c = lost_more (sym c.has_room.ensures ∙ c.if-not-has_room.false) c.if-ball.false c.if-count-lt-LOSING_BALLS.true c.stored.ensures.first c.stored.ensures.second c.stored.ensures.radius c.put_ball.ensures

pub displace-requires : goal.displace-requires
displace-requires c = (room_fits _ _ _ (sym c.has_room.ensures ∙ c.if-not-has_room.false)).0

pub returns : goal.returns
unfolding of_bits
returns c = lost_full (sym c.has_room.ensures ∙ c.if-not-has_room.false) c.if-ball.false c.if-count-lt-LOSING_BALLS.false c.displace.ensures
