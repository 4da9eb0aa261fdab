use Rattle.logarithms.specs.Inner.Stages.{Put}
use Rattle.logarithms.proofs.groups.put_group.Given as goal

abbrev pub invariant-loop-k : goal.invariant-loop-k
invariant-loop-k l = Put l.place l.k l.group l.initial.values l.values
