use mathlib.Core.Path.{refl}
use Rattle.candidate.specs.Boxes.{gap2}
use lib.Ieee.{of_bits}
use Rattle.candidate.proofs.boxes.gap2.Goals as goal

pub returns : goal.returns
unfolding gap2 of_bits
returns c = rw (c.max-gap.ensures, c.max.ensures) refl
