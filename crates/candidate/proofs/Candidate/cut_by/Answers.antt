use Rattle.std.proofs.Common.{◌≡◌, rules}
use Rattle.floats.specs.Numbers.{◌-ᶠ◌}
use Rattle.candidate.specs.Boxes.{at, span_at, over_channels}
use Rattle.candidate.specs.Cuts.{cut_by, far2, cut_span}
use Rattle.candidate.proofs.Candidate.cut_by.Goals as goal

pub returns : goal.returns
unfolding cut_by
returns c =
    let b = c.args.ball in
    let total : c.over_channels-total.result ≡ over_channels 2 (λ k. far2 (span_at c.args.self k) (at b.centre k)) = c.over_channels-total.ensures _ (λ k r l p. search rules) in
    c.along_each.ensures (λ k s. cut_span s (at b.centre k) b.r2 (over_channels 2 (λ j. far2 (span_at c.args.self j) (at b.centre j)) -ᶠ far2 s (at b.centre k))) (λ k s r l p. rw (← total) (search rules))
