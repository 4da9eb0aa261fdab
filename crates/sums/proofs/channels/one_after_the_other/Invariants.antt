use Rattle.std.proofs.Common.{◌≡◌, ◌+◌, ◌*◌}
use Rattle.areas.specs.Parts.{Frame}
use Rattle.sums.specs.EachChannel.{Sums}
use Rattle.sums.proofs.channels.one_after_the_other.Given as goal

abbrev pub invariant-loop-c : goal.invariant-loop-c
invariant-loop-c l = (l.place ≡ l.c * (2 * (l.n + 1))) × Sums l.run l.n l.c l.area × Frame l.initial.area l.area 0 (l.channels * (2 * (l.n + 1)))
