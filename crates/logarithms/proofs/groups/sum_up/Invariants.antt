use Prim.Native.Nat.{◌*◌}
use Rattle.logarithms.specs.Inner.Stages.{Begun, Each}
use Rattle.logarithms.proofs.groups.sum_up.Given as goal

abbrev pub invariant-loop-group : goal.invariant-loop-group
invariant-loop-group l = Each (Begun 0) (16 * l.group) l.ratios l.sums
