use Rattle.std.proofs.Common.{◌+◌, refl, arith}
use Rattle.functional.proofs.SlotLaws.{copied_none, copied_more, copied_all}
use Rattle.functional.proofs.slots.copy_run.Goals as goal

pub loop-i-init : goal.loop-i-init
loop-i-init c = copied_none _ _ _ _

pub loop-i-preserved : goal.loop-i-preserved
loop-i-preserved c =
    let a = c.args in
    copied_more a.from.now _ a.place c.loop-i.i _ _ c.loop-i.invariant refl (omega arith) (omega arith) refl

pub returns : goal.returns
returns c =
    let a = c.args in
    copied_all a.from.now (8 + a.place) a.place (omega arith) c.loop-i.invariant
