-- `inequality::lowest::lowest` meets its contract. The loop's invariant: `best` is that of the first `j` candidates. Assumes nothing.
use native.Mathlib.Omega.{arith}
use Rattle.inequality.specs.Inner.Weights.{lowest_by}
use Rattle.inequality.proofs.lowest.lowest.Goals as goal

pub loop-j-init : goal.loop-j-init
unfolding lowest_by
loop-j-init c = (omega arith, c.none_yet-best.ensures)
