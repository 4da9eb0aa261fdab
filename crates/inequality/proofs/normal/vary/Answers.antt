-- `inequality::normal::vary` meets its contract. The loop's invariant: the first `j` values are written. Assumes nothing.
use mathlib.Core.Path.{refl}
use Rattle.inequality.specs.Inner.Weights.{segment_at, variance_at}
use Rattle.inequality.proofs.FilledLaws.{filled_none, filled_more, filled_all}
use Rattle.inequality.proofs.normal.vary.Goals as goal

pub loop-j-init : goal.loop-j-init
loop-j-init c = filled_none _ _

pub loop-j-preserved : goal.loop-j-preserved
unfolding segment_at variance_at
loop-j-preserved c = let l = c.loop-j in filled_more _ _ _ l.invariant c.loop-j-test.true (rw (c.raised.ensures, c.l2_cost.ensures, c.length_of-length.ensures) refl)

pub returns : goal.returns
returns c = let l = c.loop-j in filled_all _ _ l.invariant c.loop-j-test.false l.auto.j-end
