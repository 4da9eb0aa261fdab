use Rattle.candidate_sides.proofs.SlabLaws.{root_cut, root_far, root_outside}
use Rattle.candidate_sides.proofs.Span.cut_by_root.Goals as goal
use Rattle.candidate_sides.proofs.Span.cut_by_root.Goals.{else-ends_in-via-then-ends_in+else-finite, else-ends_in-via-else-ends_in}

pub returns-then-finite : goal.returns-then-finite
returns-then-finite c = root_cut _ _ _ _ c.about-slab.ensures c.far2.ensures c.finite.ensures c.if-finite.true c.cut_ends.ensures

pub returns : goal.returns
returns c =
    elim c.else-ends_in.branch [
      | else-ends_in-via-then-ends_in+else-finite w ↦ root_far _ _ _ _ c.about-slab.ensures w.far2.ensures w.finite.ensures w.if-finite.false
      | else-ends_in-via-else-ends_in w ↦ root_outside _ _ _ _ c.about-slab.ensures c.ends_in.ensures w.if-ends_in.false
    ]
