-- `backtrack::cuts::put` meets its contract: past the area's end nothing is set. Assumes nothing.
use mathlib.Core.Path.{sym}
use lib.Seq.{set_out}
use Rattle.backtrack.proofs.cuts.put.Goals as goal

pub returns-else-place-cuts : goal.returns-else-place-cuts
returns-else-place-cuts c = sym (set_out _ _ _ c.if-place-cuts.false)
