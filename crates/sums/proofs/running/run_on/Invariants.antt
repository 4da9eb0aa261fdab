use Rattle.std.proofs.Common.{◌≡◌, length}
use Rattle.sums.specs.Sums.{centred_to, squares_to}
use Rattle.sums.proofs.SumLaws.{SummedTo}
use Rattle.sums.proofs.running.run_on.Given as goal

abbrev pub invariant-loop-i : goal.invariant-loop-i
invariant-loop-i l = (l.sum ≡ centred_to l.channel l.mean l.i) × (l.sum_of_squares ≡ squares_to l.channel l.mean l.i) × SummedTo l.channel l.mean l.i (length l.channel) l.initial.area l.area l.place
