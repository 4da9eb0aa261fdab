use Rattle.std.proofs.Common.{refl}
use Rattle.candidate_sides.specs.Reach.{narrowed}
use lib.Ieee.{of_bits}
use Rattle.candidate_sides.proofs.Span.narrowed.Goals as goal

pub returns : goal.returns
unfolding narrowed of_bits
returns c = rw (c.min.ensures, c.max-2.ensures, c.about-reach.ensures, c.sqrt.ensures, c.max.ensures) refl
