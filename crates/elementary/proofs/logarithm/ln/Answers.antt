-- `elementary::logarithm::ln` meets its contract. Assumes nothing.
use Rattle.std.proofs.Common.{pos, ◌-ℤ◌, sym, ap, ◌∙◌}
use lib.Ieee.{Float, of_bits, nan_bits}
use Rattle.elementary.specs.Logarithm.{ln_scaled}
use Rattle.floats.proofs.Order.Zero.{zero_by_zero}
use Rattle.elementary.proofs.parts.Patterns.{argument_below, argument_infinite}
use Rattle.elementary.proofs.logarithm.Scaling.{ln_of_value, ln_of_parts, ln_infinite, ln_zero, ln_negative}
use Rattle.elementary.proofs.logarithm.ln.Goals as goal

pub parts_of-parts-requires : goal.parts_of-parts-requires
unfolding of_bits
parts_of-parts-requires c =
    let pattern = argument_below _ c.well_formed.0.1 c.if-x.true c.if-pattern-lt9218868437227405312.true in
    (pattern.some, pattern.under)

pub float_from_bits-result : goal.float_from_bits-result
unfolding nan_bits
float_from_bits-result c = tt

pub returns-then-pattern-lt9218868437227405312 : goal.returns-then-pattern-lt9218868437227405312
unfolding of_bits
returns-then-pattern-lt9218868437227405312 c =
    let p = c.parts_of-parts in
    let w = argument_below _ c.well_formed.0.1 c.if-x.true c.if-pattern-lt9218868437227405312.true in
    c.scaled.ensures
    ∙ ap (λ (m : Float). ln_scaled m (pos p.result.power -ℤ pos 2096)) c.placed.ensures
    ∙ sym (ln_of_value _ _ w.count w.counted ∙ ln_of_parts _ _ _ p.ensures.0 p.ensures.1)

pub returns-else-pattern-lt9218868437227405312 : goal.returns-else-pattern-lt9218868437227405312
unfolding of_bits
returns-else-pattern-lt9218868437227405312 c =
    ln_infinite _ (argument_infinite _ c.well_formed.0.1 c.if-x.true c.if-pattern-lt9218868437227405312.false)

pub returns-then-x-2 : goal.returns-then-x-2
unfolding of_bits
returns-then-x-2 c = ln_zero _ c.if-x-2.true

pub returns-else-x-2 : goal.returns-else-x-2
unfolding of_bits
returns-else-x-2 c = zero_by_zero ∙ ln_negative c.args.x c.if-x.false c.if-x-2.false
