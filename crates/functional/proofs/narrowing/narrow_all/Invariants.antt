use Rattle.std.proofs.Common.{length}
use Rattle.functional.specs.Inner.Held.{Narrowed}
use Rattle.functional.proofs.narrowing.narrow_all.Given as goal

abbrev pub invariant-loop-j : goal.invariant-loop-j
invariant-loop-j l = Narrowed l.channels l.initial.slots l.slots l.initial.entries l.entries (length l.initial.slots) l.j l.kept
