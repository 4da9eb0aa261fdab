-- `inequality::weights::add_l2_channels` meets its contract. The loop's invariant: the costs of the first `pair` pairs of channels are added. Assumes nothing.
use mathlib.Core.Path.{◌≡◌, refl, ap, ◌∙◌}
use Prim.Native.Nat.{ℕ, ◌+◌, ◌-◌, ◌*◌}
use native.Mathlib.Omega.{arith}
use lib.ListN.{length}
use Rattle.costs.specs.declared.CostFunction.TheVariants.{L2}
use Rattle.areas.specs.Parts.{tab}
use Rattle.inequality.specs.Inner.Weights.{costs_at}
use Rattle.inequality.proofs.WeightLaws.{costs_more, costs_two}
use Rattle.inequality.proofs.weights.add_l2_channels.Goals as goal

pub loop-pair-preserved : goal.loop-pair-preserved
loop-pair-preserved c = let a = c.args in let l = c.loop-pair in
    costs_two L2 a.view (length a.weights.now) (omega arith) c.channel.result c.channel-in-loop-pair.result l.weights c.add_l2_pair.new.weights (2 * l.pair) (2 * l.pair) (2 * l.pair + 1) (2 * (l.pair + 1))
    l.invariant refl refl (omega arith) c.channel.ensures.rows c.channel-in-loop-pair.ensures.rows c.add_l2_pair.ensures

pub returns-then-channels-eq1 : goal.returns-then-channels-eq1
returns-then-channels-eq1 c = let a = c.args in let l = c.loop-pair in
    costs_more L2 a.view (length a.weights.now) (omega arith) c.channel-then-channels-eq1.result l.weights c.add_l2.new.weights (2 * l.pair) (a.channels - 1) a.channels l.invariant (omega arith) (omega arith) c.channel-then-channels-eq1.ensures.rows c.add_l2.ensures

pub returns-else-channels-eq1 : goal.returns-else-channels-eq1
returns-else-channels-eq1 c = let a = c.args in let l = c.loop-pair in let e : 2 * l.pair ≡ a.channels = omega arith in l.invariant ∙ ap (λ (k : ℕ). tab (costs_at L2 a.view k) (length a.weights.now)) e
