use mathlib.Core.Path.{◌≡◌}
use Prim.Native.Nat.{◌≤◌, ◌-◌}
use Rattle.inequality.specs.Inner.Weights.{lowest_by}
use Rattle.inequality.proofs.lowest.lowest.Given as goal

abbrev pub invariant-loop-j : goal.invariant-loop-j
invariant-loop-j l = (l.j ≤ l.old) × (l.best ≡ lowest_by l.penalty l.weights l.candidates l.j)

abbrev pub decreases-loop-j : goal.decreases-loop-j
decreases-loop-j l = l.old - l.j
