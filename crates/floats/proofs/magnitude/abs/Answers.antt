-- `floats::magnitude::abs` meets its contract. Assumes nothing.
use mathlib.Core.Path.{sym, subst}
use lib.Dec.{T}
use lib.Ieee.{of_bits}
use Rattle.floats.proofs.Order.Magnitude.{abs_below, abs_zero, abs_above}
use Rattle.floats.proofs.magnitude.abs.Goals as goal

pub returns-then-x : goal.returns-then-x
unfolding of_bits
returns-then-x c = abs_below c.args.x c.if-x.true

pub returns-then-x-2 : goal.returns-then-x-2
unfolding of_bits
returns-then-x-2 c = abs_zero c.args.x (subst T (sym c.well_formed.0.1) tt) c.if-x-2.true

pub returns : goal.returns
unfolding of_bits
returns c = abs_above c.args.x c.if-x.false c.if-x-2.false
