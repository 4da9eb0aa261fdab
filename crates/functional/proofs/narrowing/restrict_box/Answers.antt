use Rattle.std.proofs.Common.{ap, ◌∙◌}
use Rattle.functional.specs.Inner.Held.{put_box}
use Rattle.functional.proofs.MarkLaws.{narrowed_is, narrowed_stays}
use Rattle.functional.proofs.narrowing.restrict_box.Goals as goal

pub returns : goal.returns
returns c =
    let a = c.args in
    let h = a.slot.now in
    let x = c.facing_at.ensures in
    let b = c.outer_ball-ball.ensures in
    let v = c.box_at-before.ensures in
    let n = c.restrict-after.ensures in
    record {
      put = c.put_box.ensures ∙ ap (put_box h) (narrowed_is a.channels h _ _ _ _ x b v n);
      stays = λ e. narrowed_stays a.channels h _ _ _ _ x b v n (c.same_box.ensures e);
    }
