use mathlib.Core.Path.{◌≡◌}
use mathlib.Core.List.{◌++◌}
use lib.ListN.{length}
use Rattle.inequality.specs.Inner.Held.{Holds}
use Rattle.inequality.proofs.steps.search.Given as goal

abbrev pub invariant-loop-t : goal.invariant-loop-t
invariant-loop-t l = (length l.parts ≡ length l.initial.parts) × (length l.weights ≡ length l.initial.weights) × (length l.predecessors ≡ length l.initial.predecessors) × (length l.candidates ≡ length l.initial.candidates) × Holds l.run l.plan (l.parts ++ l.weights) (l.predecessors ++ l.candidates) l.count l.t
