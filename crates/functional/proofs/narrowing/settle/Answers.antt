use Rattle.std.proofs.Common.{refl, sym, ap, ◌∙◌, set, arith}
use Rattle.candidate.specs.Dominated.{is_dominated}
use Rattle.functional.specs.Inner.Held.{balls_in}
use Rattle.functional.proofs.NarrowLaws.{settle_cut, settle_stored, settled_gone, settled_stays, balls_few}
use Rattle.functional.proofs.narrowing.settle.Goals as goal

pub returns-then-is_dominated : goal.returns-then-is_dominated
returns-then-is_dominated c =
    let a = c.args in
    let cut = settle_cut a.channels a.slots.now a.entries.now a.j _ _ c.box_at-before.ensures c.cut_box-cut.ensures in
    settled_gone (sym (c.is_dominated.ensures ∙ ap (is_dominated a.channels) cut) ∙ c.if-is_dominated.true)

pub bring_balls-requires : goal.bring_balls-requires
unfolding balls_in
bring_balls-requires c =
    let a = c.args in
    let p = c.requires in
    (omega (arith, p.2), p.1, balls_few a.channels a.slots.now a.entries.now a.j p.3)

pub marked-requires : goal.marked-requires
unfolding balls_in
marked-requires c =
    let a = c.args in
    balls_few a.channels a.slots.now a.entries.now a.j c.requires.3

pub returns : goal.returns
unfolding balls_in
returns c =
    let a = c.args in
    let p = c.requires in
    let cut = settle_cut a.channels a.slots.now a.entries.now a.j _ _ c.box_at-before.ensures c.cut_box-cut.ensures in
    settled_stays (sym (c.is_dominated.ensures ∙ ap (is_dominated a.channels) cut) ∙ c.if-is_dominated.false)
    (settle_stored a.channels a.slots.now a.entries.now a.j a.kept _ _ _ _ p.3 c.box_at-before.ensures cut c.same_box.ensures c.marked.ensures c.bring_balls.ensures (ap (set c.bring_balls.new.slots a.kept) c.put_box.ensures) refl c.told-slots (omega arith) (omega arith))
