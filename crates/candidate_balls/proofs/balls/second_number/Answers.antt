use mathlib.Core.Path.{refl}
use Rattle.candidate_balls.specs.Losing.{second_number}
use lib.Ieee.{of_bits}
use borrow.Author.Tests.{eq-eqb, ne_eqb}
use Rattle.candidate_balls.proofs.balls.second_number.Goals as goal

pub returns-then-channels-eq1 : goal.returns-then-channels-eq1
unfolding second_number of_bits
returns-then-channels-eq1 c = rw (eq-eqb _ _ c.if-channels-eq1.true) c.sqrt.ensures

pub returns-else-channels-eq1 : goal.returns-else-channels-eq1
unfolding second_number
returns-else-channels-eq1 c = rw (ne_eqb _ _ c.if-channels-eq1.false) refl
