-- `elementary::logarithm::summed` meets its contract. Assumes nothing.
use Rattle.std.proofs.Common.{◌∙◌}
use Rattle.elementary.specs.Logarithm.{ln_of}
use Rattle.elementary.proofs.logarithm.summed.Goals as goal

pub returns : goal.returns
unfolding ln_of
returns c = c.ln_last_step.ensures ∙ rw (c.exponent.ensures, c.series.ensures)
