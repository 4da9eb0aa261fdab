use Rattle.functional.specs.Inner.Held.{Holds}
use Rattle.functional.proofs.steps.search.Given as goal

abbrev pub invariant-loop-t : goal.invariant-loop-t
invariant-loop-t l = Holds l.plan l.f l.last l.entries l.slots l.count l.t
