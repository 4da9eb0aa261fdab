use Rattle.std.proofs.Common.{refl, ap, ◌∙◌, arith}
use Rattle.functional.specs.Inner.Held.{slot_at, put_facing}
use Rattle.functional.proofs.SlotLaws.{mapped_more, mapped_all}
use Rattle.functional.proofs.faces.face_all.Goals as goal

pub loop-j-preserved : goal.loop-j-preserved
loop-j-preserved c =
    let l = c.loop-j in
    mapped_more l.invariant (omega arith) refl (c.put_facing.ensures ∙ ap (put_facing (slot_at l.slots l.j)) c.face.ensures)

pub returns : goal.returns
returns c = let l = c.loop-j in mapped_all l.invariant c.loop-j-test.false l.auto.j-end
