-- `c_answers::spread_told` meets its contract: by the two cases of a spread. Assumes nothing.
use lib.Ieee.{of_bits}
use Rattle.c_answers.specs.Told.{spread_told}
use Rattle.c_answers.proofs.spread_told.Goals as goal

pub returns-in-None : goal.returns-in-None
unfolding spread_told of_bits
returns-in-None c = rw c.in-None.is

pub returns-in-Some : goal.returns-in-Some
unfolding spread_told
returns-in-Some c = rw c.in-Some.is
