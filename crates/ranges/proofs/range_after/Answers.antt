-- `ranges::range_after` meets its contract: readings within the range change nothing. Assumes nothing.
use mathlib.Core.Path.{sym, ◌∙◌}
use Rattle.ranges.proofs.RangeLaws.{taken_on}
use Rattle.ranges.proofs.range_after.Goals as goal

pub returns : goal.returns
returns c = sym (taken_on _ _ (sym c.any_beyond.ensures ∙ c.if-any_beyond.false))
