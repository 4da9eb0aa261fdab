-- `noise::variance::noise_sum` meets its contract without room. Assumes nothing.
use Rattle.std.proofs.Common.{sym, refl, ◌∙◌}
use lib.Ieee.{of_bits}
use Rattle.noise.proofs.NoiseLaws.{lent_nothing}
use Rattle.noise.proofs.variance.noise_sum.Goals as goal

pub returns-then-not-has_room : goal.returns-then-not-has_room
unfolding of_bits
returns-then-not-has_room c = lent_nothing (sym c.has_room.ensures ∙ c.if-not-has_room.true) refl
