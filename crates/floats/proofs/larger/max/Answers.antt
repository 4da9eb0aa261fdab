-- `floats::larger::max` meets its contract: each answer by the tests that led to it. Assumes nothing.
use Rattle.floats.specs.MaxMin.{larger}
use Rattle.floats.proofs.larger.max.Goals as goal

pub returns-then-x-y : goal.returns-then-x-y
unfolding larger
returns-then-x-y c = rw (c.if-x-y.true, larger)

pub returns-then-x : goal.returns-then-x
unfolding larger
returns-then-x c = rw (c.if-x-y.false, c.if-x.true, larger)

pub returns : goal.returns
unfolding larger
returns c = rw (c.if-x-y.false, c.if-x.false, larger)
