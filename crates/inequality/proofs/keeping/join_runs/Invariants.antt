use Rattle.inequality.specs.Inner.Staying.{Joined}
use Rattle.inequality.proofs.keeping.join_runs.Given as goal

abbrev pub invariant-loop-run : goal.invariant-loop-run
invariant-loop-run l = Joined l.plan l.initial.parts l.parts l.kept l.t l.run
