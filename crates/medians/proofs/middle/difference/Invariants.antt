use mathlib.Core.Path.{◌≡◌}
use lib.ListN.{length, take}
use Rattle.areas.specs.Parts.{tab}
use Rattle.medians.specs.Median.{difference_at}
use Rattle.medians.proofs.middle.difference.Given as goal

abbrev pub invariant-loop-i : goal.invariant-loop-i
invariant-loop-i l = (length l.run ≡ length l.initial.run) × (take l.i l.run ≡ tab (difference_at l.channel) l.i)
