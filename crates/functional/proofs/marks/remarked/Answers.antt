use mathlib.Core.Path.{refl}
use Rattle.functional.specs.Inner.Held.{balls_in}
use Rattle.functional.proofs.marks.remarked.Goals as goal

pub returns-then-stayed : goal.returns-then-stayed
returns-then-stayed c = rw c.if-stayed.true refl

pub returns-else-stayed : goal.returns-else-stayed
unfolding balls_in
returns-else-stayed c = rw c.if-stayed.false refl
