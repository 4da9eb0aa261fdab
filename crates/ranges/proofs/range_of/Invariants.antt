use mathlib.Core.Path.{◌≡◌}
use Rattle.std.specs.Slice.Iter.{chunks_rest, chunks_size}
use Rattle.ranges.specs.Inner.Blocks.{taken_in}
use Rattle.ranges.proofs.RangeLaws.{none}
use Rattle.ranges.proofs.range_of.Given as goal

abbrev pub invariant-loop-block : goal.invariant-loop-block
invariant-loop-block l = (taken_in l.range (chunks_rest l.block-iterator) ≡ taken_in none l.channel) × (chunks_size l.block-iterator ≡ 64)
