use Rattle.inequality.specs.Inner.Staying.{Leaving}
use Rattle.inequality.proofs.keeping.leaving.Given as goal

abbrev pub invariant-loop-j : goal.invariant-loop-j
invariant-loop-j l = Leaving l.bound l.weights 0 l.from l.j
