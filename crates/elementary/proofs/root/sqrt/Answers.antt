-- `elementary::root::sqrt` meets its contract. Assumes nothing.
use Rattle.std.proofs.Common.{ℕ, ◌*◌, ◌^◌, ◌≤◌, sym, ap, ◌∙◌, arith}
use lib.Ieee.{binary64, of_bits, to_bits}
use Rattle.elementary.specs.Root.{near_root}
use Rattle.floats.proofs.Order.Zero.{zero_by_zero}
use Rattle.elementary.proofs.parts.Values.{count_high}
use Rattle.elementary.proofs.parts.Shifts.{high_root}
use Rattle.elementary.proofs.parts.Patterns.{argument_below, argument_infinite}
use Rattle.elementary.proofs.root.Cases.{sqrt_of_pattern, sqrt_infinite, sqrt_zero, sqrt_negative}
use Rattle.elementary.proofs.root.sqrt.Goals as goal

pub at_the_ends-requires : goal.at_the_ends-requires
unfolding of_bits
at_the_ends-requires c =
    ((argument_below _ c.well_formed.0.1 c.if-x.true c.if-pattern-lt9218868437227405312.true).some, c.if-pattern-lt9218868437227405312.true)

pub returns-then-wrapping_sub_u64-lt9007199254740992000 : goal.returns-then-wrapping_sub_u64-lt9007199254740992000
unfolding of_bits
returns-then-wrapping_sub_u64-lt9007199254740992000 c =
    let t = c in
    let b = to_bits binary64 t.args.x in
    let l : 2 ^ 52 ≤ b = omega arith in
    c.rooted.ensures
    ∙ ap near_root (sym (ap (λ (z : ℕ). z * 2 ^ 1074) (count_high b l) ∙ high_root b l))
    ∙ sym (sqrt_of_pattern _ b (argument_below _ c.well_formed.0.1 t.if-x.true (omega arith)))

pub returns-then-pattern-lt9218868437227405312 : goal.returns-then-pattern-lt9218868437227405312
unfolding of_bits
returns-then-pattern-lt9218868437227405312 c =
    c.at_the_ends.ensures ∙ sym (sqrt_of_pattern _ _ (argument_below _ c.well_formed.0.1 c.if-x.true c.if-pattern-lt9218868437227405312.true))

pub returns-else-pattern-lt9218868437227405312 : goal.returns-else-pattern-lt9218868437227405312
unfolding of_bits
returns-else-pattern-lt9218868437227405312 c =
    sqrt_infinite _ (argument_infinite _ c.well_formed.0.1 c.if-x.true c.if-pattern-lt9218868437227405312.false)

pub returns-then-x-2 : goal.returns-then-x-2
unfolding of_bits
returns-then-x-2 c = sqrt_zero _ c.if-x-2.true

pub returns-else-x-2 : goal.returns-else-x-2
unfolding of_bits
returns-else-x-2 c = zero_by_zero ∙ sqrt_negative c.args.x c.if-x.false c.if-x-2.false
