use Prim.Native.Nat.{◌+◌, ◌*◌, ◌<◌}
use mathlib.Core.Path.{refl}
use native.Mathlib.Omega.{arith}
use lib.Ieee.{of_bits}
use Rattle.sums.proofs.ChannelLaws.{mul_room}
use Rattle.search_rules.specs.Functional.{range_along}
use Rattle.functional.proofs.ChannelLaws.{range_one, range_two, sums_one, sums_two}
use Rattle.functional.proofs.channels.sum_channels.Goals as goal

pub sum_channel-x-requires : goal.sum_channel-x-requires
sum_channel-x-requires c =
    let a = c.args in
    let p = c.requires in
    (p.0, p.1, p.2, p.3, omega (arith, p.4, mul_room 0 a.channels (2 * (a.n + 1)) p.0))

pub returns-then-channels-eq1 : goal.returns-then-channels-eq1
unfolding of_bits range_along
returns-then-channels-eq1 c = (range_one _ _ c.if-channels-eq1.true c.sum_channel-x.ensures.0, sums_one c.if-channels-eq1.true c.sum_channel-x.ensures.1)

pub sum_channel-y-requires : goal.sum_channel-y-requires
sum_channel-y-requires c =
    let a = c.args in
    let p = c.requires in
    let two : 1 < a.channels = omega (arith, p.0, c.if-channels-eq1.false) in
    (two, p.1, p.2, p.3, rw c.sum_channel-x.auto.floats (omega (arith, p.4, mul_room 1 a.channels (2 * (a.n + 1)) two)))

pub returns : goal.returns
unfolding range_along
returns c =
    let p = c.requires in
    (range_two _ _ _ c.if-channels-eq1.false c.sum_channel-x.ensures.0 c.sum_channel-y.ensures.0, sums_two (omega (arith, p.0, p.1, c.if-channels-eq1.false)) refl c.sum_channel-x.ensures.1 c.sum_channel-y.ensures.1)
