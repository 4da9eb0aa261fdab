use mathlib.Core.Path.{◌≡◌}
use Prim.Native.Nat.{◌≤◌}
use lib.ListN.{take}
use Rattle.medians.specs.Inner.Ranks.{count_below, count_upto}
use Rattle.medians.proofs.partition.counts_at.Given as goal

abbrev pub invariant-loop-value : goal.invariant-loop-value
invariant-loop-value l = (l.below ≤ l.value-index) × (l.upto ≤ l.value-index) × (l.below ≡ count_below l.x (take l.value-index l.run)) × (l.upto ≡ count_upto l.x (take l.value-index l.run))
