use Rattle.std.proofs.Common.{◌≡◌}
use Rattle.noise.specs.Noise.{noise_sum_to}
use Rattle.noise.proofs.variance.add_noise.Given as goal

abbrev pub invariant-loop-k : goal.invariant-loop-k
invariant-loop-k l = (l.sum ≡ noise_sum_to l.run l.n l.k) × (l.area ≡ l.initial.area)
