use Rattle.std.proofs.Common.{◌≡◌}
use Rattle.logarithms.proofs.EachLaws.{done_to}
use Rattle.logarithms.proofs.stages.join.Given as goal

abbrev pub invariant-loop-i : goal.invariant-loop-i
invariant-loop-i l = l.values ≡ done_to l.i l.initial.values
