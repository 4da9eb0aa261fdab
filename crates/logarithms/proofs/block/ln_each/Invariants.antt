use mathlib.Core.Path.{◌≡◌}
use Prim.Native.Nat.{◌≤◌, ◌-◌}
use lib.ListN.{length}
use Rattle.logarithms.proofs.EachLaws.{done_to}
use Rattle.logarithms.proofs.block.ln_each.Given as goal

abbrev pub invariant-loop-start : goal.invariant-loop-start
invariant-loop-start l = (l.start ≤ length l.initial.values) × (l.values ≡ done_to l.start l.initial.values)

abbrev pub decreases-loop-start : goal.decreases-loop-start
decreases-loop-start l = length l.initial.values - l.start
