-- `piece::segment_of::advance` meets its contract. The loop's invariant: the readings so far are taken in. Assumes nothing.
use Rattle.piece.specs.Inner.Running.{with_reading}
use Rattle.piece.proofs.PieceLaws.{taken_more}
use Rattle.piece.proofs.segment_of.advance.Goals as goal

pub loop-reading-preserved : goal.loop-reading-preserved
unfolding with_reading
loop-reading-preserved c = let l = c.loop-reading in taken_more c.args.readings.now c.args.mean c.args.before l.reading-index l.sum l.sum_of_squares c.loop-reading-test.true l.invariant
