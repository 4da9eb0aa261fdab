use Prim.Native.Nat.{◌≤◌, ◌-◌}
use lib.ListN.{length}
use Rattle.inequality.specs.Inner.Staying.{Staying}
use Rattle.inequality.proofs.keeping.fours_staying.Given as goal

abbrev pub invariant-loop-j : goal.invariant-loop-j
invariant-loop-j l = (l.j ≤ length l.weights) × Staying l.bound l.weights 0 l.j

abbrev pub decreases-loop-j : goal.decreases-loop-j
decreases-loop-j l = length l.weights - l.j
