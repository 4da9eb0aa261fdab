-- `inequality::weights::add_normal_channels` meets its contract. The loop's invariant: the costs of the first `c` channels are added. Assumes nothing.
use mathlib.Core.Path.{refl}
use Prim.Native.Nat.{◌+◌}
use native.Mathlib.Omega.{arith}
use lib.ListN.{length}
use Rattle.costs.specs.declared.CostFunction.TheVariants.{Normal}
use Rattle.inequality.proofs.WeightLaws.{costs_more}
use Rattle.inequality.proofs.weights.add_normal_channels.Goals as goal

pub loop-c-preserved : goal.loop-c-preserved
loop-c-preserved c = let a = c.args in let l = c.loop-c in
    costs_more Normal a.view (length a.weights.now) (omega arith) c.channel.result l.weights c.add_normal.new.weights l.c l.c (l.c + 1) l.invariant refl refl c.channel.ensures.rows c.add_normal.ensures
