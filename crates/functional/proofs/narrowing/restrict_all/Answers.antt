use Rattle.std.proofs.Common.{◌≡◌, ℕ, List, [], ◌∷◌, set, refl, ap, subst, arith}
use lib.Ieee.{Float}
use Rattle.functional.specs.Inner.Held.{tau_at, box_at, narrowed_at}
use Rattle.functional.proofs.SlotLaws.{mapped_more, mapped_all}
use Rattle.functional.proofs.MarkLaws.{remark, remarked_more, remarked_all}
use Rattle.functional.proofs.narrowing.restrict_all.Goals as goal

pub loop-j-preserved : goal.loop-j-preserved
loop-j-preserved c =
    let a = c.args in
    let l = c.loop-j in
    let q = l.invariant in
    let r = c.restrict_box-stayed.ensures in
    record {
      boxes = mapped_more q.boxes (omega arith) refl r.put;
      words = remarked_more q.words (omega (arith, q.words.long)) refl refl (ap (λ (w : ℕ). set l.entries l.j (tau_at l.entries l.j ∷ w ∷ [])) c.remarked.ensures)
          (remark a.channels _ _ _ (λ e. subst (λ (k : List Float). narrowed_at a.channels k ≡ box_at k) (q.boxes.rest l.j (omega arith)) (r.stays e)));
    }

pub returns : goal.returns
returns c =
    let l = c.loop-j in
    (mapped_all l.invariant.boxes c.loop-j-test.false l.auto.j-end, remarked_all l.invariant.words c.loop-j-test.false l.auto.j-end)
