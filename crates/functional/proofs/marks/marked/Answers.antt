use mathlib.Core.Path.{refl}
use Rattle.functional.proofs.marks.marked.Goals as goal

pub returns-then-uncut : goal.returns-then-uncut
returns-then-uncut c = rw c.if-uncut.true refl

pub returns-else-uncut : goal.returns-else-uncut
returns-else-uncut c = rw c.if-uncut.false refl
