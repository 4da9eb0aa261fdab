use Rattle.std.proofs.Common.{◌≡◌, sym, ◌∙◌, lt-ltb, length, rules, arith}
use Rattle.functional.specs.Inner.Held.{is_marked}
use Rattle.functional.proofs.NarrowLaws.{balls_cut_in}
use Rattle.functional.proofs.narrowing.cut_box.Goals as goal

pub returns-then-word-ge-MARK : goal.returns-then-word-ge-MARK
unfolding is_marked
returns-then-word-ge-MARK c =
    let p = c.requires in
    rw p.1 (sym (p.0.uncut (lt-ltb 127 _ (omega arith))))

pub returns : goal.returns
returns c =
    let a = c.args in
    let long : length a.slot.now ≡ 200 = search rules in
    c.cut_losing.ensures ∙ balls_cut_in a.channels a.slot.now a.word a.before c.requires.0 (omega arith) long
