use mathlib.Core.List.{◌++◌}
use Rattle.inequality.specs.Inner.Staying.{RetainedRuns}
use Rattle.inequality.proofs.keeping.retain_runs.Given as goal

abbrev pub invariant-loop-run : goal.invariant-loop-run
invariant-loop-run l = RetainedRuns l.bound l.plan (l.initial.parts ++ l.weights) (l.parts ++ l.weights) l.count l.run
