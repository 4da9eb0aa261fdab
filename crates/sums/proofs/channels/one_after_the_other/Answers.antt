-- `sums::channels::one_after_the_other` meets its contract. The loop's invariant: the sums of the first `c` channels are written, and `place` stands behind them. Assumes nothing.
use Rattle.std.proofs.Common.{◌+◌, ◌*◌, ap, length, ◌∙◌, arith}
use Rattle.areas.proofs.PartLaws.{frame_trans, frame_wide}
use Rattle.sums.proofs.ChannelLaws.{mul_more, mul_room, channel_long, sums_more}
use Rattle.readings.proofs.ViewLaws.{viewed_below}
use Rattle.sums.proofs.channels.one_after_the_other.Goals as goal

pub about_its_mean-requires : goal.about_its_mean-requires
about_its_mean-requires c =
    let a = c.args in
    let p = c.requires in
    let l = c.loop-c in
    rw (c.channel_of.ensures ∙ viewed_below a.run.now a.channels a.n l.c c.loop-c-test.true, channel_long a.run.now a.n a.channels l.c p.0 p.1 p.2 c.loop-c-test.true)
    (omega (arith, mul_room l.c a.channels (2 * (a.n + 1)) c.loop-c-test.true, l.auto.area, p.3, l.invariant.0))

pub loop-c-preserved : goal.loop-c-preserved
loop-c-preserved c =
    let a = c.args in
    let p = c.requires in
    let l = c.loop-c in
    let q = c.channel_of.ensures ∙ viewed_below a.run.now a.channels a.n l.c c.loop-c-test.true in
    let long = ap length q ∙ channel_long a.run.now a.n a.channels l.c p.0 p.1 p.2 c.loop-c-test.true in
    let r = c.about_its_mean.ensures in
    (omega (arith, l.invariant.0, mul_more l.c (2 * (a.n + 1))), sums_more r q long l.invariant.0 l.invariant.1, frame_trans l.invariant.2 (frame_wide _ _ r.frame (omega arith) (omega (arith, long, l.invariant.0, mul_room l.c a.channels (2 * (a.n + 1)) c.loop-c-test.true))))
