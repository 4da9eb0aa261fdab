-- `elementary::root::guess` is safe: no bit pattern that it makes is a NaN's. Assumes nothing.
use Rattle.std.proofs.Common.{◌-◌, ◌/◌, arith}
use Rattle.elementary.proofs.parts.Patterns.{low_pattern}
use Rattle.elementary.proofs.root.guess.Goals as goal

pub float_from_bits-y : goal.float_from_bits-y
float_from_bits-y c = low_pattern (0x5fe3_ffff_2000_0000 - c.args.pattern / 2) (omega arith)
