-- `inequality::keeping::all_below` meets its contract. Assumes nothing.
use mathlib.Core.Path.{refl}
use Rattle.inequality.proofs.keeping.all_below.Goals as goal

pub returns : goal.returns
returns c = rw (← c.part_below.ensures, ← c.part_below-2.ensures, ← c.part_below-3.ensures, ← c.part_below-4.ensures) refl
