use mathlib.Core.Path.{◌≡◌}
use Prim.Native.Nat.{◌*◌}
use lib.ListN.{length}
use Rattle.areas.specs.Parts.{tab}
use Rattle.costs.specs.declared.CostFunction.TheVariants.{L2}
use Rattle.inequality.specs.Inner.Weights.{costs_at}
use Rattle.inequality.proofs.weights.add_l2_channels.Given as goal

abbrev pub invariant-loop-pair : goal.invariant-loop-pair
invariant-loop-pair l = l.weights ≡ tab (costs_at L2 l.view (2 * l.pair)) (length l.initial.weights)
