use mathlib.Core.Path.{◌≡◌}
use mathlib.Core.Bool.{Bool}
use Prim.Native.Nat.{◌≤◌}
use lib.ListN.{length}
use lib.Ieee.{Float}
use Rattle.medians.specs.Inner.Rounds.{Computes}
use Rattle.medians.proofs.KeepingLaws.{Keeping}
use Rattle.medians.proofs.partition.keep.Given as goal

abbrev pub invariant-loop-i : goal.invariant-loop-i
invariant-loop-i g l = (l.kept ≤ l.i) × (length l.run ≡ length l.initial.run) × ((p : Float → Bool) → Computes (goal.F-post g l.test) p → Keeping p l.initial.run l.run l.kept l.i)
