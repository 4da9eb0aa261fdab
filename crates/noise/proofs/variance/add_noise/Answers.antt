-- `noise::variance::add_noise` meets its contract. The loop's invariant: the sum of the first `k` channels, and the area as the loop found it. Assumes nothing.
use Rattle.std.proofs.Common.{◌≡◌, refl, ap, ◌∙◌, arith}
use lib.Ieee.{of_bits}
use Rattle.readings.proofs.ViewLaws.{viewed_below}
use Rattle.noise.specs.Noise.{noise_sum_to, cleared}
use Rattle.noise.proofs.NoiseLaws.{has_room_lem, place_cleared, channel_lent, sum_more}
use Rattle.noise.proofs.variance.add_noise.Goals as goal

pub loop-k-init : goal.loop-k-init
unfolding noise_sum_to of_bits
loop-k-init c = (refl, refl)

pub loop-k-preserved : goal.loop-k-preserved
loop-k-preserved c =
    let a = c.args in
    let emptied : c.clear.new.area ≡ cleared a.area.now a.n a.place = place_cleared _ _ _ _ _ (has_room_lem _ _ _ c.requires) c.saturating_sub.ensures c.clear.ensures in
    let loop = c.loop-k in
    let given = c.channel_of.ensures ∙ viewed_below a.run.now a.channels a.n loop.k c.loop-k-test.true in
    let l = channel_lent _ _ _ _ _ _ _ _ _ _ c.requires emptied loop.invariant.1 given c.noise_variance-sum.ensures in
    (sum_more _ _ _ _ _ _ loop.invariant.0 given l.0, l.1)

pub returns : goal.returns
returns c =
    let a = c.args in
    let e : c.loop-k.k ≡ a.channels = omega arith in
    (c.loop-k.invariant.0 ∙ ap (noise_sum_to a.run.now a.n) e, c.loop-k.invariant.1 ∙ place_cleared _ _ _ _ _ (has_room_lem _ _ _ c.requires) c.saturating_sub.ensures c.clear.ensures)
