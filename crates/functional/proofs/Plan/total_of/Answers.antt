use Rattle.std.proofs.Common.{ap, ◌∙◌, get_or}
use lib.Ieee.{Float, nan}
use Rattle.floats.specs.Numbers.{◌+ᶠ◌}
use Rattle.functional.proofs.FaceLaws.{price_held}
use Rattle.functional.proofs.Plan.total_of.Goals as goal

pub returns : goal.returns
returns c =
    let a = c.args in
    ap (λ (v : Float). get_or a.f.now a.tau nan +ᶠ v +ᶠ a.self.penalty) (c.cost_of-cost.ensures ∙ price_held a.self a.tau a.t c.requires.0 c.requires.1 c.requires.2)
