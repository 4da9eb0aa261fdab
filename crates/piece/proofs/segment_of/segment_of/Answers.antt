-- `piece::segment_of::segment_of` meets its contract: by the sums before the piece and at its end. Assumes nothing.
use lib.Ieee.{of_bits}
use Rattle.piece.proofs.PieceLaws.{segment_between}
use Rattle.piece.proofs.segment_of.segment_of.Goals as goal

pub returns : goal.returns
unfolding of_bits
returns c = segment_between _ _ _ _ _ _ _ c.requires.0 c.requires.1 c.advance-before.ensures c.advance-after.ensures c.nearest_u64_to_f64.ensures
