use Rattle.std.proofs.Common.{◌≡◌, rules}
use lib.Ieee.{of_bits}
use Rattle.floats.specs.Numbers.{◌-ᶠ◌}
use Rattle.candidate.specs.Boxes.{at, gap2, missed, narrowed, span_at, over_channels, restrict}
use Rattle.candidate.proofs.Candidate.restrict.Goals as goal

pub returns-then-ball-total : goal.returns-then-ball-total
unfolding restrict missed of_bits
returns-then-ball-total c =
    let b = c.args.ball in
    let total : c.over_channels-total.result ≡ over_channels c.args.channels (λ k. gap2 (span_at c.args.self k) (at b.centre k)) = c.over_channels-total.ensures _ (λ k r l p. search rules) in
    rw (← total, c.if-ball-total.true, ← c.nothing.ensures) c.with_side.ensures

pub returns : goal.returns
unfolding restrict missed of_bits
returns c =
    let b = c.args.ball in
    let total : c.over_channels-total.result ≡ over_channels c.args.channels (λ k. gap2 (span_at c.args.self k) (at b.centre k)) = c.over_channels-total.ensures _ (λ k r l p. search rules) in
    rw (← total, c.if-ball-total.false) (c.along_each.ensures (λ k s. narrowed s (at b.centre k) (b.r2 -ᶠ (c.over_channels-total.result -ᶠ gap2 s (at b.centre k)))) (λ k s r l p. search rules))
