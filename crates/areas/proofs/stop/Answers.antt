-- `areas::stop` meets its contract: each answer by the tests that led to it. Assumes nothing.
use borrow.Author.Tests.{lt-ltb, le-ltb}
use Rattle.areas.specs.Cleared.{stop_of}
use Rattle.areas.proofs.stop.Goals as goal

pub returns-then-size-long : goal.returns-then-size-long
unfolding stop_of
returns-then-size-long c = rw (stop_of, lt-ltb _ _ c.if-place-long.true, lt-ltb _ _ c.if-size-long.true)

pub returns-then-place-long : goal.returns-then-place-long
unfolding stop_of
returns-then-place-long c = rw (stop_of, lt-ltb _ _ c.if-place-long.true, le-ltb _ _ c.if-size-long.false)

pub returns : goal.returns
unfolding stop_of
returns c = rw (stop_of, le-ltb _ _ c.if-place-long.false)
