use mathlib.Core.Path.{◌≡◌}
use Rattle.costs.specs.declared.CostFunction.TheVariants.{L2}
use Rattle.inequality.specs.Inner.Weights.{with_costs, filled}
use Rattle.inequality.proofs.weights.add_l2_pair.Given as goal

abbrev pub invariant-loop-j : goal.invariant-loop-j
invariant-loop-j l = l.weights ≡ filled (with_costs L2 l.fn.channel l.fn.next l.initial.weights) l.initial.weights l.j
