-- `ewma::resting::width_from` meets its contract. Assumes nothing.
use borrow.Author.Tests.{le-leb, lt-leb}
use Rattle.ewma.specs.Settled.{width_from}
use Rattle.ewma.proofs.resting.width_from.Goals as goal

pub returns-then-settled-place : goal.returns-then-settled-place
unfolding width_from
returns-then-settled-place c = rw (width_from, le-leb _ _ c.if-settled-place.true)

pub moving_width-requires : goal.moving_width-requires
moving_width-requires c = c.requires

pub returns : goal.returns
unfolding width_from
returns c = rw (width_from, lt-leb _ _ c.if-settled-place.false, c.moving_width.ensures)
