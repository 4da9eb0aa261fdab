-- `costs::penalties::bic` meets its contract, by the cost function. Assumes nothing.
use Rattle.std.proofs.Common.{refl}
use Rattle.costs.specs.Penalties.{bic_penalty}
use lib.Ieee.{of_bits, of_int}
use Rattle.costs.proofs.penalties.bic.Goals as goal

pub returns-in-L2 : goal.returns-in-L2
unfolding bic_penalty of_bits of_int
returns-in-L2 c = rw (c.in-L2.is, c.ln-logarithm.ensures, c.nearest_u64_to_f64.ensures) refl

pub returns-in-Normal : goal.returns-in-Normal
unfolding bic_penalty of_bits of_int
returns-in-Normal c = rw (c.in-Normal.is, c.ln-logarithm.ensures, c.nearest_u64_to_f64.ensures) refl
