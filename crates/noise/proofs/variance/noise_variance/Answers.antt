-- `noise::variance::noise_variance` meets its contract, with room and without. Assumes nothing.
use mathlib.Core.Path.{◌≡◌, refl, sym, ap, ◌∙◌}
use Prim.Native.Nat.{◌-◌, ◌+◌}
use native.Mathlib.Omega.{arith}
use lib.ListN.{length}
use lib.Ieee.{of_bits}
use Rattle.floats.specs.Numbers.{ratio}
use Rattle.floats.specs.MaxMin.{larger}
use Rattle.ranges.specs.declared.Range.{Range}
use Rattle.noise.specs.Noise.{spread_of, floor_of, has_room}
use Rattle.noise.proofs.NoiseLaws.{has_room_lem, noise_of_few, noise_of_many, nothing_cleared, part_median, part_cleared, lent_found, lent_nothing}
use mathlib.Core.Bool.{true}
use Rattle.noise.proofs.variance.noise_variance.Goals as goal

pub returns-then-channel-lt2 : goal.returns-then-channel-lt2
unfolding of_bits
returns-then-channel-lt2 c =
    let there : let a = c.args in has_room (length a.area.now) (length a.channel.now) a.place ≡ true = sym c.has_room.ensures ∙ c.if-not-has_room.false in
    lent_found there (noise_of_few _ c.if-channel-lt2.true) (nothing_cleared _ _ _ c.if-channel-lt2.true)

pub returns : goal.returns
unfolding spread_of floor_of of_bits ratio
returns c =
    let there : let a = c.args in has_room (length a.area.now) (length a.channel.now) a.place ≡ true = sym c.has_room.ensures ∙ c.if-not-has_room.false in
    let a = c.args in
    let m = c.median_difference-median in
    let e : a.place + (length a.channel.now - 1) - a.place ≡ length a.channel.now - 1 = omega arith in
    let room = has_room_lem _ _ _ there in
    let many = c.if-channel-lt2.false in
    let found = part_median _ _ _ a.place _ room many e m.ensures in
    let f = c.max-least.ensures ∙ ap (λ (r : Range). larger (spread_of m.result) (floor_of r)) c.range_of-range.ensures in
    lent_found there (noise_of_many _ _ _ many found.0 f) (part_cleared _ _ _ _ _ room e found.1)

pub returns-then-not-has_room : goal.returns-then-not-has_room
unfolding of_bits
returns-then-not-has_room c = lent_nothing (sym c.has_room.ensures ∙ c.if-not-has_room.true) refl
