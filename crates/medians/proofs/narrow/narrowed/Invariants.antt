use Prim.Native.Nat.{◌-◌}
use Rattle.medians.specs.Inner.Ranks.{Around}
use Rattle.medians.proofs.narrow.narrowed.Given as goal

abbrev pub invariant-loop-b : goal.invariant-loop-b
invariant-loop-b l = Around l.run l.place l.b

abbrev pub decreases-loop-b : goal.decreases-loop-b
decreases-loop-b l = l.b.high - l.b.low
