use mathlib.Core.Path.{◌≡◌}
use lib.ListN.{length}
use Rattle.areas.specs.Parts.{tab}
use Rattle.costs.specs.declared.CostFunction.TheVariants.{Normal}
use Rattle.inequality.specs.Inner.Weights.{costs_at}
use Rattle.inequality.proofs.weights.add_normal_channels.Given as goal

abbrev pub invariant-loop-c : goal.invariant-loop-c
invariant-loop-c l = l.weights ≡ tab (costs_at Normal l.view l.c) (length l.initial.weights)
