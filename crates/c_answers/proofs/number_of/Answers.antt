-- `c_answers::number_of` meets its contract. Assumes nothing.
use native.Mathlib.Omega.{arith}
use Rattle.refusals.proofs.ValueLaws.{number_bounds}
use Rattle.c_answers.proofs.number_of.Goals as goal

pub overflow_cast-result : goal.overflow_cast-result
overflow_cast-result c = let h = (number_bounds c.args.refusal).1 in let e = c.number.ensures in record { fits = omega (arith, h, e) }

pub returns : goal.returns
returns c = c.number.ensures
