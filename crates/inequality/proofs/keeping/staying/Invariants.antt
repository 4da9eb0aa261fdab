use Rattle.inequality.specs.Inner.Staying.{Staying}
use Rattle.inequality.proofs.keeping.staying.Given as goal

abbrev pub invariant-loop-j : goal.invariant-loop-j
invariant-loop-j l = Staying l.bound l.weights 0 l.j
