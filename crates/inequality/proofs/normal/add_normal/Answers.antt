-- `inequality::normal::add_normal` meets its contract. The loop's invariant: the costs of the first `first` candidates are added. Assumes nothing.
use mathlib.Core.Path.{refl}
use Prim.Native.Nat.{◌+◌}
use native.Mathlib.Omega.{arith}
use lib.ListN.{length-append, length-take, length-drop}
use Rattle.inequality.proofs.WeightLaws.{block_more}
use Rattle.inequality.proofs.FilledLaws.{filled_none, filled_all}
use Rattle.inequality.proofs.normal.add_normal.Goals as goal

pub loop-first-init : goal.loop-first-init
loop-first-init c = record { within = omega arith; done = filled_none _ _; room = refl }

pub loop-first-preserved : goal.loop-first-preserved
loop-first-preserved c = let a = c.args in let l = c.loop-first in let size = c.block_size-size.result in
    record {
      within = omega arith;
      done = block_more a.channel c.rows.result a.weights.now l.weights c.add_block.new.weights l.first size (l.first + size) l.invariant.done refl (omega arith) c.rows.ensures.rows c.add_block.ensures;
      room = simp (length-append, length-drop) (omega (arith, c.add_block.auto.values, length-take size l.values));
    }

pub returns : goal.returns
returns c = let l = c.loop-first in filled_all _ _ l.invariant.done c.loop-first-test.false l.invariant.within
