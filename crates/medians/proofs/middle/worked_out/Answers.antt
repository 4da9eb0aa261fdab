-- `medians::middle::worked_out` meets its contract: the middle values are those of the differences, and `run` is cleared. Assumes nothing.
use Prim.Native.Nat.{ℕ}
use mathlib.Core.Path.{ap, ◌∙◌}
use lib.ListN.{length, replicate}
use lib.Ieee.{of_bits}
use Rattle.floats.specs.Numbers.{+0, ratio}
use Rattle.medians.proofs.MedianLaws.{differences_ready, middle_of_equal, odd_median, even_median}
use Rattle.std.proofs.Common.{rules}
use Rattle.medians.proofs.middle.worked_out.Goals as goal

pub middles-two-requires : goal.middles-two-requires
middles-two-requires c = differences_ready _ _ _ c.difference.ensures c.requires.0 c.requires.1

pub returns-then-run-eq1 : goal.returns-then-run-eq1
unfolding of_bits
returns-then-run-eq1 c =
    let long = c.middles-two.auto.run ∙ ap length c.difference.ensures in
    (odd_median _ _ _ (middle_of_equal c.difference.ensures c.middles-two.ensures) (c.fill.ensures.len ∙ long) c.if-run-eq1.true, c.fill.ensures.after (λ y h. search rules) ∙ ap (λ (n : ℕ). replicate n +0) (c.middles-two.auto.run ∙ c.difference.auto.run))

pub returns : goal.returns
unfolding of_bits ratio
returns c =
    let long = c.middles-two.auto.run ∙ ap length c.difference.ensures in
    (even_median _ _ _ (middle_of_equal c.difference.ensures c.middles-two.ensures) (c.fill.ensures.len ∙ long) c.if-run-eq1.false, c.fill.ensures.after (λ y h. search rules) ∙ ap (λ (n : ℕ). replicate n +0) (c.middles-two.auto.run ∙ c.difference.auto.run))
