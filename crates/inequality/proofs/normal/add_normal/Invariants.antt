use mathlib.Core.Path.{◌≡◌}
use Prim.Native.Nat.{◌≤◌, ◌-◌}
use lib.ListN.{length}
use Rattle.costs.specs.declared.CostFunction.TheVariants.{Normal}
use Rattle.inequality.specs.Inner.Weights.{filled, with_cost}
use Rattle.inequality.proofs.normal.add_normal.Given as goal

abbrev pub invariant-loop-first : goal.invariant-loop-first
invariant-loop-first l = record { within : l.first ≤ l.old; done : l.weights ≡ filled (with_cost Normal l.channel l.initial.weights) l.initial.weights l.first; room : length l.values ≡ 32 }

abbrev pub decreases-loop-first : goal.decreases-loop-first
decreases-loop-first l = l.old - l.first
