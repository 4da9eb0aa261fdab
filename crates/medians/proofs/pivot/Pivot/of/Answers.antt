-- `medians::pivot::Pivot::of` meets its contract: NaN is no pivot. Assumes nothing.
use native.Mathlib.Omega.{arith}
use lib.Ieee.{binary64, of_bits}
use Rattle.floats.proofs.Order.Patterns.{pattern_of}
use Rattle.medians.proofs.RankLaws.{pattern_magnitude, equals_itself}
use Rattle.medians.proofs.pivot.Pivot.of.Goals as goal

pub invariant_of-result-2 : goal.invariant_of-result-2
invariant_of-result-2 c = record { clear = pattern_magnitude 0x7ff0_0000_0000_0000 (omega arith); number = equals_itself (of_bits binary64 0x7ff0_0000_0000_0000) (pattern_of 0x7ff0_0000_0000_0000 (omega arith)).number }
