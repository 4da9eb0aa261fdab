use Rattle.std.proofs.Common.{◌*◌, ◌-◌, ◌^◌}
use Rattle.elementary.proofs.root.Digits.{Found}
use Rattle.elementary.proofs.root.root_by_digits.Given as goal

abbrev pub invariant-loop-turn : goal.invariant-loop-turn
invariant-loop-turn l = Found (l.square * 2 ^ 52) (53 - l._turn) l.weight l.root l.rest
