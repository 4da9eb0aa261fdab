-- `medians::rank::ranked` meets its contract: a bracket of one pattern is that of the value. Assumes nothing.
use mathlib.Core.Path.{◌∙◌}
use lib.Ieee.{of_bits}
use Rattle.medians.proofs.RankLaws.{near_nan}
use Rattle.medians.proofs.BracketLaws.{around_first, around_found, infinite_found}
use Rattle.medians.proofs.rank.ranked.Goals as goal

pub returns-then-count_numbers-place : goal.returns-then-count_numbers-place
unfolding of_bits
returns-then-count_numbers-place c = near_nan _ c.args.run.clear _ c.requires (rw c.count_numbers.ensures at c.if-count_numbers-place.true)

pub returns-then-count_below-place : goal.returns-then-count_below-place
returns-then-count_below-place c = infinite_found _ c.args.run.clear _ c.requires (rw c.count_below.ensures at c.if-count_below-place.true) (rw c.count_numbers.ensures at c.if-count_numbers-place.false)

pub narrowed-requires : goal.narrowed-requires
narrowed-requires c = around_first _ _ c.args.run.clear (rw c.count_below.ensures at c.if-count_below-place.false)

pub returns : goal.returns
returns c = let n = c.narrowed.ensures in c.from_bits.ensures ∙ around_found _ c.args.run.clear _ c.narrowed.result n.0 n.1
