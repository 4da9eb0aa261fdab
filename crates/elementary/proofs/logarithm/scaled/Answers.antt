-- `elementary::logarithm::scaled` meets its contract. Assumes nothing.
use Rattle.std.proofs.Common.{◌∙◌}
use lib.Ieee.{of_int, of_bits}
use Rattle.floats.specs.Numbers.{ratio}
use Rattle.elementary.specs.Logarithm.{ln_scaled}
use Rattle.elementary.proofs.logarithm.Exponents.{one_more}
use Rattle.elementary.proofs.logarithm.scaled.Goals as goal

pub returns-then-m : goal.returns-then-m
unfolding ln_scaled ratio of_int of_bits
returns-then-m c = c.summed.ensures ∙ rw (one_more c.args.power, c.if-m.true, ln_scaled)

pub returns : goal.returns
unfolding ln_scaled ratio of_int of_bits
returns c = c.summed-2.ensures ∙ rw (c.if-m.false, ln_scaled)
