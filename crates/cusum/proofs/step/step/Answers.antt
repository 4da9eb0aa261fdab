-- `cusum::step::step` meets its contract. Assumes nothing.
use Rattle.cusum.specs.Chart.{step_of}
use Rattle.cusum.proofs.step.step.Goals as goal

pub returns-then-finite : goal.returns-then-finite
unfolding step_of
returns-then-finite c = rw (← c.finite.ensures, c.if-finite.true) c.moved.ensures

pub returns-else-finite : goal.returns-else-finite
unfolding step_of
returns-else-finite c = rw (← c.finite.ensures, c.if-finite.false)
