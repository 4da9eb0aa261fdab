-- `inequality::keeping::staying` meets its contract. The loop's invariant: the first `j` candidates stay. Assumes nothing.
use mathlib.Core.Path.{sym, ◌∙◌}
use native.Mathlib.Omega.{arith}
use native.Mathlib.Nat.{le_antisymm}
use Rattle.inequality.proofs.KeepingLaws.{staying_more, staying_all}
use Rattle.inequality.proofs.keeping.staying.Goals as goal

pub loop-j-init : goal.loop-j-init
loop-j-init c = c.fours_staying-j.ensures.1

pub loop-j-preserved : goal.loop-j-preserved
loop-j-preserved c = staying_more _ c.loop-j.invariant (omega arith) (sym c.part_below.ensures ∙ c.if-not-part_below.false)

pub returns : goal.returns
returns c = (omega arith, staying_all (le_antisymm (omega arith) (omega arith)) c.loop-j.invariant)
