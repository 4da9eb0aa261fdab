-- `inequality::keeping::fours_staying` meets its contract. The loop's invariant: the first `j` candidates stay. Assumes nothing.
use mathlib.Core.Path.{sym, ◌∙◌}
use native.Mathlib.Omega.{arith}
use Rattle.inequality.proofs.KeepingLaws.{staying_none, staying_four}
use Rattle.inequality.proofs.keeping.fours_staying.Goals as goal

pub loop-j-init : goal.loop-j-init
loop-j-init c = (omega arith, staying_none _ _ _)

pub loop-j-preserved : goal.loop-j-preserved
loop-j-preserved c = (omega arith, staying_four _ c.loop-j.invariant.1 (omega arith) (sym c.all_below.ensures ∙ c.if-all_below.true))

pub returns-else-all_below : goal.returns-else-all_below
returns-else-all_below c = c.loop-j.invariant

pub returns : goal.returns
returns c = c.loop-j.invariant
