use Rattle.std.proofs.Common.{◌+◌}
use Rattle.areas.specs.Parts.{part}
use Rattle.functional.specs.Inner.Held.{Copied}
use Rattle.functional.proofs.slots.copy_run.Given as goal

abbrev pub invariant-loop-i : goal.invariant-loop-i
invariant-loop-i l = Copied l.fn.slot l.slot (8 + l.place) (part l.from l.place l.i) l.i
