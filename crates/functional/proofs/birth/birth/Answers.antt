use Rattle.std.proofs.Common.{arith}
use Rattle.functional.proofs.BirthLaws.{joins}
use Rattle.functional.proofs.birth.birth.Goals as goal

pub returns : goal.returns
returns c =
    let a = c.args in
    let p = c.requires in
    let m = c.meet-balls in
    joins a.plan a.f.now a.slots.now m.new.slots _ m.new.born a.entries.now m.new.entries _ a.count a.b _ _ _ p.0 p.5 (omega (arith, p.2, p.4)) m.auto.slots m.auto.entries m.ensures c.bear.ensures
