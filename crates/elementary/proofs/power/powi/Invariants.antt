use Rattle.std.proofs.Common.{◌≡◌}
use Rattle.elementary.specs.Power.{pow_from, powi}
use Rattle.elementary.proofs.power.powi.Given as goal

abbrev pub invariant-loop-rest : goal.invariant-loop-rest
invariant-loop-rest l = pow_from l.rest l.rest l.base l.result ≡ powi l.x l.n

abbrev pub decreases-loop-rest : goal.decreases-loop-rest
decreases-loop-rest l = l.rest
