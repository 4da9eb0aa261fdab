-- `logarithms::stages::joined` meets its contract. Assumes nothing.
use mathlib.Core.Path.{sym, ap, ◌∙◌, subst}
use lib.Dec.{T}
use lib.Ieee.{Float}
use Rattle.elementary.specs.Logarithm.{last_step}
use Rattle.logarithms.proofs.PlainLaws.{ln_joined}
use Rattle.logarithms.proofs.stages.joined.Goals as goal

pub returns : goal.returns
returns c =
    let a = c.args in
    let p = c.requires in
    c.ln_last_step.ensures
    ∙ ap (λ (e : Float). last_step e a.s a.sum) c.exponent.ensures
    ∙ ln_joined a.value (subst T (sym c.well_formed.0.1) tt) p.0 a.s a.sum p.1 p.2
