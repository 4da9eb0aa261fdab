use Rattle.logic.proofs.Laws.{both}
use Rattle.functional.proofs.marks.same_box.Goals as goal

pub returns : goal.returns
returns c e =
    let t = both _ _ e in
    let u = both _ _ t.0 in
    let v = both _ _ u.0 in
    record { low = c.same_number.ensures v.0; high = c.same_number-2.ensures v.1; low_beside = c.same_number-3.ensures u.1; high_beside = c.same_number-4.ensures t.1 }
