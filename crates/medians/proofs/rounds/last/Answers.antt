-- `medians::rounds::last` meets its contract. Assumes nothing.
use mathlib.Core.Path.{refl}
use native.Mathlib.Omega.{arith}
use lib.Ieee.{of_bits}
use Rattle.medians.proofs.rounds.last.Goals as goal

pub returns-then-run-ranks : goal.returns-then-run-ranks
unfolding of_bits
returns-then-run-ranks c = (λ h. absurd (omega (arith, h)), λ h. refl)
