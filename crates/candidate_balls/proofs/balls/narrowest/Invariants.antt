use Rattle.std.proofs.Common.{◌≡◌, ◌<◌, ◌-◌}
use Rattle.candidate_balls.specs.Losing.{narrowest_in}
use Rattle.candidate_balls.proofs.balls.narrowest.Given as goal

abbrev pub invariant-loop-i : goal.invariant-loop-i
invariant-loop-i l = (l.least < l.i) × (l.least ≡ narrowest_in l.balls l.place (l.i - 1))
