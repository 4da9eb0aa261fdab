use Rattle.std.proofs.Common.{◌≡◌, refl, ◌∙◌}
use lib.Ieee.{of_bits}
use Rattle.search_rules.specs.Functional.{besides, centre_along}
use Rattle.functional.specs.Inner.Held.{task}
use Rattle.functional.proofs.FaceLaws.{one_channel, two_channels, price_held, facing_from}
use Rattle.functional.proofs.Plan.face.Goals as goal
use Rattle.functional.proofs.Plan.face.Goals.{then-self-eq1, else-self-eq1}

pub returns : goal.returns
unfolding of_bits
returns c =
    let a = c.args in
    let p = c.requires in
    let beside : c.if-self-eq1.cy ≡ besides (task a.self) (centre_along (task a.self) 1 a.a a.b) =
    elim c.if-self-eq1.branch [
      | then-self-eq1 w ↦ w.cy-is ∙ one_channel a.self _ w.if-self-eq1.true
      | else-self-eq1 w ↦ w.cy-is ∙ two_channels a.self _ _ w.if-self-eq1.false w.centre_along-cy.ensures
    ] in
    facing_from a.self a.f.now a.a a.b _ _ _ _ _ (c.cost_of-cost.ensures ∙ price_held a.self a.a a.b p.0 p.2 p.3) refl c.slack_of-slack.ensures c.centre_along-cx.ensures beside
