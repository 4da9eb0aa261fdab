-- `cusum::step::less` meets its contract. Assumes nothing.
use mathlib.Core.Path.{sym, subst}
use lib.Dec.{T}
use lib.Ieee.{of_bits}
use Rattle.cusum.proofs.Allowance.{strict_less_max}
use Rattle.cusum.proofs.step.less.Goals as goal

pub returns-then-left : goal.returns-then-left
unfolding of_bits
returns-then-left c =
    rw c.if-left.true at (strict_less_max c.args.sum c.args.k (subst T (sym c.well_formed.0.1) tt) (subst T (sym c.well_formed.1.0.1) tt) c.requires)

pub returns-else-left : goal.returns-else-left
unfolding of_bits
returns-else-left c =
    rw c.if-left.false at (strict_less_max c.args.sum c.args.k (subst T (sym c.well_formed.0.1) tt) (subst T (sym c.well_formed.1.0.1) tt) c.requires)
