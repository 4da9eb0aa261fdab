-- `inequality::weights::add_channels` meets its contract. Assumes nothing.
use mathlib.Core.Path.{refl}
use native.Mathlib.Omega.{arith}
use lib.ListN.{length}
use lib.Ieee.{of_bits}
use Rattle.costs.specs.declared.CostFunction.TheVariants.{L2, Normal}
use Rattle.inequality.proofs.WeightLaws.{costs_none}
use Rattle.inequality.proofs.weights.add_channels.Goals as goal

pub add_l2_channels-requires : goal.add_l2_channels-requires
unfolding of_bits
add_l2_channels-requires c = (omega arith, omega arith, omega arith, costs_none L2 c.args.view c.fill.new.self (length c.args.weights.now) _ (c.fill.ensures.after (λ y e. e)) refl)

pub add_normal_channels-requires : goal.add_normal_channels-requires
unfolding of_bits
add_normal_channels-requires c = (omega arith, omega arith, omega arith, costs_none Normal c.args.view c.fill.new.self (length c.args.weights.now) _ (c.fill.ensures.after (λ y e. e)) refl)
