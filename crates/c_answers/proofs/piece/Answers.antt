-- `c_answers::piece` meets its contract. Assumes nothing.
use lib.Ieee.{of_bits}
use Rattle.c_answers.specs.Told.{piece_of}
use Rattle.c_answers.proofs.piece.Goals as goal

pub returns-in-Ok : goal.returns-in-Ok
unfolding piece_of
returns-in-Ok c = rw (c.in-Ok.is, c.spread_told-told.ensures)

pub returns-in-Err : goal.returns-in-Err
unfolding piece_of of_bits
returns-in-Err c = rw (c.in-Err.is, c.number_of.ensures)
