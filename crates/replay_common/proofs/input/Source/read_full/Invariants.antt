use Rattle.std.proofs.Common.{length, ◌-◌, ◌≤◌}
use Rattle.replay_common.proofs.input.Source.read_full.Given as goal

abbrev pub invariant-loop-done : goal.invariant-loop-done
invariant-loop-done l = l.done ≤ length l.area

abbrev pub decreases-loop-done : goal.decreases-loop-done
decreases-loop-done l = length l.initial.area - l.done
