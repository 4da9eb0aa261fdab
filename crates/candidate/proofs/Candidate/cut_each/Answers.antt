use Rattle.std.proofs.Common.{refl, sym, ap, ◌∙◌, arith, eq-eqb}
use borrow.Author.Tests.{ne_eqb}
use Rattle.candidate.specs.Boxes.{gone}
use Rattle.candidate.specs.Cuts.{cut_to}
use Rattle.candidate.proofs.CutLaws.{ball_read, cut_more, cut_gone}
use Rattle.candidate.proofs.Candidate.cut_each.Goals as goal
use Rattle.candidate.proofs.Candidate.cut_each.Goals.{then-channels-eq1, else-channels-eq1}

pub loop-i-init : goal.loop-i-init
unfolding cut_to
loop-i-init c = refl

pub returns-then-gone : goal.returns-then-gone
returns-then-gone c = cut_gone _ _ _ _ _ c.loop-i.invariant (sym (c.gone.ensures ∙ ap gone c.side.ensures) ∙ c.if-gone.true) (omega arith)

pub loop-i-preserved : goal.loop-i-preserved
loop-i-preserved c =
    let ball = c.ball_at-ball.ensures ∙ ball_read _ _ _ _ c.loop-i-test.true in
    cut_more _ _ _ _ c.loop-i.invariant (sym (c.gone.ensures ∙ ap gone c.side.ensures) ∙ c.if-gone.false) ball
    (elim c.if-channels-eq1.branch [
      | then-channels-eq1 w ↦ w.self-is ∙ rw (eq-eqb _ _ w.if-channels-eq1.true) w.cut_rooted-self.ensures
      | else-channels-eq1 w ↦ w.self-is ∙ rw (ne_eqb _ _ w.if-channels-eq1.false) w.cut_by-self.ensures
    ])
