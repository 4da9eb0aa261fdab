use mathlib.Core.Path.{◌≡◌}
use Rattle.inequality.specs.Inner.Weights.{lowest_by}
use Rattle.inequality.proofs.lowest.better_to.Given as goal

abbrev pub invariant-loop-j : goal.invariant-loop-j
invariant-loop-j l = l.found ≡ lowest_by l.penalty l.weights l.candidates l.j
