use Rattle.std.proofs.Common.{◌≡◌, sym, ap, ◌∙◌, length, rules, arith}
use Rattle.candidate.specs.Dominated.{is_dominated}
use Rattle.functional.proofs.BirthLaws.{born_cut, borne_gone, borne_stored, borne_full}
use Rattle.functional.proofs.birth.bear.Goals as goal
use Rattle.functional.proofs.birth.bear.Goals.{then-kept-slots, else-kept-slots}

pub returns-then-is_dominated : goal.returns-then-is_dominated
returns-then-is_dominated c =
    let a = c.args in
    let long : length a.born.now ≡ 192 = search rules in
    let cut = born_cut a.plan a.born.now a.balls a.b _ c.requires.3 long c.cut_losing-cut.ensures in
    borne_gone (sym (c.is_dominated.ensures ∙ ap (is_dominated a.plan.channels) cut) ∙ c.if-is_dominated.true)

pub returns : goal.returns
returns c =
    let a = c.args in
    let p = c.requires in
    let long : length a.born.now ≡ 192 = search rules in
    let cut = born_cut a.plan a.born.now a.balls a.b _ p.3 long c.cut_losing-cut.ensures in
    let left = sym (c.is_dominated.ensures ∙ ap (is_dominated a.plan.channels) cut) ∙ c.if-is_dominated.false in
    elim c.if-kept-slots.branch [
      | then-kept-slots w ↦ rw (w.entries-is, w.slots-is) (borne_stored a.plan a.slots.now _ a.born.now a.entries.now _ a.kept a.balls a.b _ p.0 left cut p.3 w.place.ensures c.told-slots w.if-kept-slots.true (omega arith))
      | else-kept-slots w ↦ rw (w.entries-is, w.slots-is) (borne_full left w.if-kept-slots.false)
    ]
