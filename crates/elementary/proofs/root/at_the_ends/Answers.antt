-- `elementary::root::at_the_ends` meets its contract. Assumes nothing.
use Rattle.std.proofs.Common.{arith}
use Rattle.elementary.proofs.parts.Patterns.{low_pattern}
use Rattle.elementary.proofs.root.at_the_ends.Goals as goal

pub float_from_bits-near_one : goal.float_from_bits-near_one
float_from_bits-near_one c = low_pattern _ (omega arith)
