-- `medians::ends::nearest` meets its contract. The loop's invariant: `best` is the nearest of the values so far. Assumes nothing.
use native.Mathlib.Omega.{arith}
use Rattle.medians.proofs.EndLaws.{nearest_none, nearest_more, nearest_all}
use Rattle.medians.proofs.ends.nearest.Goals as goal

pub loop-value-init : goal.loop-value-init
loop-value-init g c = λ p q h k s. nearest_none p q _ s _

pub loop-value-preserved : goal.loop-value-preserved
loop-value-preserved g c = λ p q h k s. nearest_more p q _ s _ (c.loop-value.invariant p q h k s) c.loop-value-test.true (h _ _ c.side.ensures) c.choose-candidate.ensures (k _ _ _ c.nearer.ensures) c.choose-best.ensures

pub returns : goal.returns
returns g c = λ p q h k s. nearest_all (c.loop-value.invariant p q h k s) (omega arith)
