-- `inequality::weights::add_least` meets its contract. The loop's invariant: the first `j` values are written. Assumes nothing.
use mathlib.Core.Path.{refl}
use lib.Ieee.{nan}
use Rattle.inequality.proofs.FilledLaws.{filled_none, filled_here, filled_more, filled_all}
use Rattle.inequality.proofs.weights.add_least.Goals as goal

pub loop-j-init : goal.loop-j-init
loop-j-init c = filled_none _ _

pub loop-j-preserved : goal.loop-j-preserved
loop-j-preserved c = let l = c.loop-j in filled_more _ _ _ l.invariant c.loop-j-test.true (rw (filled_here _ _ nan l.invariant c.loop-j-test.true) refl)

pub returns : goal.returns
returns c = let l = c.loop-j in filled_all _ _ l.invariant c.loop-j-test.false l.auto.j-end
