-- `logarithms::plain::carried` meets its contract. Assumes nothing.
use mathlib.Core.Path.{sym, subst}
use native.Mathlib.Omega.{arith}
use lib.Dec.{T}
use Rattle.logarithms.proofs.PlainLaws.{plain_number, high_bound}
use Rattle.logarithms.proofs.plain.carried.Goals as goal

pub float_to_bits-result : goal.float_to_bits-result
float_to_bits-result c = plain_number c.args.value (subst T (sym c.well_formed.0.1) tt) c.requires

pub overflow_add-result : goal.overflow_add-result
overflow_add-result c = omega (arith, high_bound c.args.value (subst T (sym c.well_formed.0.1) tt) c.requires)
