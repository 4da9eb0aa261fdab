use Rattle.std.proofs.Common.{sym, refl}
use Rattle.candidate_sides.specs.Slabs.{cut_span, cut_ends, moved, inside}
use Rattle.candidate_sides.proofs.Span.cut_span.Goals as goal

pub returns-then-r2-rest : goal.returns-then-r2-rest
unfolding cut_span
returns-then-r2-rest c = rw c.if-r2-rest.true refl

pub returns-then-misses : goal.returns-then-misses
unfolding cut_span
returns-then-misses c = rw c.if-r2-rest.false (sym (c.misses.ensures c.if-misses.true))

pub returns : goal.returns
unfolding cut_span cut_ends moved inside
returns c = rw (c.if-r2-rest.false, ← c.sqrt.ensures) (rw (c.cut_ends.ensures, c.about.ensures) refl)
