-- `cusum::step::moved` meets its contract. Assumes nothing.
use mathlib.Core.Path.{◌≡◌, refl, ap, ◌∙◌}
use mathlib.Core.Bool.{Bool, true, false, ◌&&◌, false≢true}
use lib.Ieee.{of_bits, is_nan}
use Rattle.floats.specs.Numbers.{◌<ᶠ◌, +0}
use Rattle.cusum.proofs.Allowance.{max_number, not_at_most}
use Rattle.cusum.proofs.step.moved.Goals as goal

-- the allowance and h are above 0
both_true : (a b : Bool) → a && b ≡ true → (a ≡ true) × (b ≡ true)
both_true true true e = (refl, refl)
both_true true false e = absurd (false≢true e)
both_true false b e = absurd (false≢true e)

pub less-s_upper-requires : goal.less-s_upper-requires
unfolding of_bits
less-s_upper-requires c = (both_true _ _ c.if-chart.true).0

pub less-s_lower-requires : goal.less-s_lower-requires
unfolding of_bits
less-s_lower-requires c = (both_true _ _ c.if-chart.true).0

pub returns-then-chart : goal.returns-then-chart
unfolding of_bits
returns-then-chart c =
    let above : +0 <ᶠ c.args.chart.h ≡ true = (both_true _ _ c.if-chart.true).1 in
    let other_side = not_at_most c.args.chart.h c.less-s_lower.result above (ap is_nan c.less-s_lower.ensures ∙ max_number _) in
    rw (c.side_of-side.ensures, other_side, c.less-s_lower.ensures, c.less-s_upper.ensures) refl

pub returns : goal.returns
unfolding of_bits
returns c = rw (c.side_of-side-2.ensures, c.max-s_lower.ensures, c.max-s_upper.ensures) refl
