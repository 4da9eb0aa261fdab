use mathlib.Core.Path.{ap, ap₂, ◌∙◌}
use native.Mathlib.Omega.{arith}
use lib.Ieee.{Float}
use Rattle.readings.proofs.ViewLaws.{viewed_below}
use Rattle.ranges.specs.declared.Range.{Range}
use Rattle.ranges.specs.Ranges.{range_of, about}
use Rattle.sums.specs.Sums.{mean_of}
use Rattle.sums.proofs.ChannelLaws.{channel_long}
use Rattle.functional.proofs.ChannelLaws.{summed}
use Rattle.functional.proofs.channels.sum_channel.Goals as goal

pub returns : goal.returns
returns c =
    let start = c in
    let a = start.args in
    let p = start.requires in
    let given = c.channel_of-signal.ensures ∙ viewed_below a.run.now a.channels a.n a.k p.0 in
    let long = channel_long a.run.now a.n a.channels a.k (omega (arith, p.1)) p.2 p.3 p.0 in
    (c.range_about.ensures ∙ ap₂ (λ (r : Range) (m : Float). about r m) (c.range_of-range.ensures ∙ ap range_of given) (c.mean-centre.ensures ∙ ap mean_of given), summed given long c.mean-centre.ensures p.4 c.cumulative_sums.ensures)
