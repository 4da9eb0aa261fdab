use mathlib.Core.Path.{◌≡◌}
use mathlib.Core.Bool.{Bool}
use Prim.Native.Nat.{◌≤◌}
use lib.ListN.{take}
use lib.Ieee.{Float}
use Rattle.medians.specs.Inner.Ranks.{count}
use Rattle.medians.specs.Inner.Rounds.{Computes}
use Rattle.medians.proofs.partition.count_of.Given as goal

abbrev pub invariant-loop-value : goal.invariant-loop-value
invariant-loop-value g l = (l.count ≤ l.value-index) × ((p : Float → Bool) → Computes (goal.F-post g l.test) p → l.count ≡ count p (take l.value-index l.run))
