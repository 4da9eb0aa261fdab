-- `floats::smaller::min` meets its contract: each answer by the tests that led to it. Assumes nothing.
use Rattle.floats.specs.MaxMin.{smaller}
use Rattle.floats.proofs.smaller.min.Goals as goal

pub returns-then-y-x : goal.returns-then-y-x
unfolding smaller
returns-then-y-x c = rw (c.if-y-x.true, smaller)

pub returns-then-x : goal.returns-then-x
unfolding smaller
returns-then-x c = rw (c.if-y-x.false, c.if-x.true, smaller)

pub returns : goal.returns
unfolding smaller
returns c = rw (c.if-y-x.false, c.if-x.false, smaller)
