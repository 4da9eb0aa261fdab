-- `inequality::lowest::one_below` meets its contract. Assumes nothing.
use mathlib.Core.Path.{refl}
use Rattle.inequality.proofs.lowest.one_below.Goals as goal

pub returns : goal.returns
returns c = rw (← c.total_below.ensures, ← c.total_below-2.ensures, ← c.total_below-3.ensures, ← c.total_below-4.ensures) refl
