use Rattle.std.proofs.Common.{◌≡◌}
use Rattle.sums.specs.Sums.{sum_to}
use Rattle.sums.proofs.total.mean.Given as goal

abbrev pub invariant-loop-reading : goal.invariant-loop-reading
invariant-loop-reading l = l.sum ≡ sum_to l.channel l.reading-index
