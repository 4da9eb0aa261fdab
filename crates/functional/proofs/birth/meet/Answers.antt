use Rattle.std.proofs.Common.{◌≡◌, length, sym, ◌∙◌}
use Rattle.functional.proofs.BirthLaws.{sane_still, met}
use Rattle.functional.proofs.birth.meet.Goals as goal

pub narrow_all-kept-requires : goal.narrow_all-kept-requires
narrow_all-kept-requires c =
    let a = c.args in
    let p = c.requires in
    let y = c.restrict_all.ensures in
    let long : length c.restrict_all.new.slots ≡ length a.slots.now = y.0.long ∙ c.face_all.ensures.long in (
      y.1.long ∙ p.3 ∙ sym long,
      rw long (sane_still a.plan a.f.now a.slots.now _ _ a.entries.now _ a.b c.told-slots c.face_all.ensures (rw c.face_all.ensures.long at y.0) (rw c.face_all.ensures.long at y.1) p.5),
    )

pub returns : goal.returns
returns c =
    let a = c.args in
    let y = c.restrict_all.ensures in
    met a.plan a.f.now a.slots.now _ _ _ _ a.entries.now _ _ a.b _ _ c.told-slots c.face_all.ensures c.lose_all-balls.ensures y.0 y.1 c.narrow_all-kept.ensures
