use Rattle.std.proofs.Common.{◌≡◌, cond, eqb}
use Rattle.candidate.specs.Balls.{held}
use Rattle.candidate.specs.Cuts.{cut_to, cut_rooted, cut_by}
use Rattle.candidate.proofs.Candidate.cut_each.Given as goal

abbrev pub invariant-loop-i : goal.invariant-loop-i
invariant-loop-i l = l.self ≡ cut_to (cond (eqb l.channels 1) cut_rooted (cut_by 2)) (held l.balls l.place l.count) l.initial.self l.i
