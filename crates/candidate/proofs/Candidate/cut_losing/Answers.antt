use Rattle.std.proofs.Common.{refl, sym, ◌∙◌}
use Rattle.candidate_balls.proofs.LosingLaws.{room_fits}
use Rattle.candidate.specs.Cuts.{cut_in}
use Rattle.candidate.proofs.Candidate.cut_losing.Goals as goal

pub cut_each-requires : goal.cut_each-requires
cut_each-requires c = room_fits _ _ _ (sym c.has_room.ensures ∙ c.if-has_room.true)

pub returns-then-has_room : goal.returns-then-has_room
unfolding cut_in
returns-then-has_room c = rw (← c.has_room.ensures, c.if-has_room.true) c.cut_each.ensures

pub returns : goal.returns
unfolding cut_in
returns c = rw (← c.has_room.ensures, c.if-has_room.false) refl
