use mathlib.Core.Path.{◌≡◌}
use Prim.Native.Nat.{◌-◌}
use Rattle.cusum.specs.RunLength.{heard_from, heard}
use Rattle.cusum.proofs.listen.listen.Given as goal

abbrev pub invariant-loop-reading : goal.invariant-loop-reading
invariant-loop-reading l = heard_from l.chart l.level l.asked (4096 - l.reading) l.reading l.shown ≡ heard l.chart l.level l.asked
