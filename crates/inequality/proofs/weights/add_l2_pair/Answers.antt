-- `inequality::weights::add_l2_pair` meets its contract. The loop's invariant: the first `j` values are written. Assumes nothing.
use mathlib.Core.Path.{refl}
use lib.Ieee.{nan}
use Rattle.costs.specs.Costs.{cost_of}
use Rattle.inequality.specs.Inner.Weights.{segment_at, with_cost, with_costs}
use Rattle.inequality.proofs.FilledLaws.{filled_none, filled_here, filled_more, filled_all}
use Rattle.inequality.proofs.weights.add_l2_pair.Goals as goal

pub loop-j-init : goal.loop-j-init
loop-j-init c = filled_none _ _

pub loop-j-preserved : goal.loop-j-preserved
unfolding segment_at with_cost with_costs cost_of
loop-j-preserved c = let l = c.loop-j in filled_more _ _ _ l.invariant c.loop-j-test.true (rw (filled_here _ _ nan l.invariant c.loop-j-test.true, c.l2_cost-cost.ensures, c.l2_cost-next_cost.ensures, c.length_of-length.ensures, c.requires.1, c.requires.2) refl)

pub returns : goal.returns
returns c = let l = c.loop-j in filled_all _ _ l.invariant c.loop-j-test.false l.auto.j-end
