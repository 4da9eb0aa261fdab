-- The loop of `areas::clear`: the part is cleared up to the index `i`. Assumes nothing.
use Rattle.std.proofs.Common.{◌-◌}
use Rattle.areas.specs.Cleared.{Cleared}
use Rattle.areas.proofs.clear.Given as goal

abbrev pub invariant-loop-i : goal.invariant-loop-i
invariant-loop-i g l = Cleared g.T.Zero.zero l.initial.area l.area l.place (l.i - l.place)
