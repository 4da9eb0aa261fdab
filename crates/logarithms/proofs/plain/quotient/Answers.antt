-- `logarithms::plain::quotient` meets its contract. Assumes nothing.
use mathlib.Core.Path.{ap}
use Prim.Native.Nat.{ℕ, ◌+◌, ◌%◌, ◌^◌}
use native.Mathlib.Omega.{arith}
use lib.Ieee.{binary64, of_bits, of_int}
use Rattle.elementary.proofs.Laws.{low_pattern}
use Rattle.logarithms.specs.Inner.Stages.{quotient_by, quotient_of}
use Rattle.logarithms.proofs.plain.quotient.Goals as goal

pub float_from_bits-m : goal.float_from_bits-m
float_from_bits-m c = low_pattern (c.carried.result % 2 ^ 52 + 0x3fe6_a09e_667f_3bce) (omega arith)

pub returns : goal.returns
unfolding quotient_of of_int of_bits
returns c = ap (λ (n : ℕ). quotient_by (of_bits binary64 (n % 2 ^ 52 + 0x3fe6_a09e_667f_3bce))) c.carried.ensures
