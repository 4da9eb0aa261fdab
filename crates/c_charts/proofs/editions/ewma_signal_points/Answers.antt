-- `c_charts::editions::ewma_signal_points` meets its contract. Assumes nothing.
use mathlib.Core.Path.{sym, ap, ◌∙◌}
use Rattle.ewma.specs.declared.Ewma.{Ewma}
use Rattle.ewma.specs.Chart.{signalled}
use Rattle.c_answers.proofs.TellLaws.{told_left_lem}
use Rattle.c_charts.proofs.EditionLaws.{known_points, other_points, told_known, told_other}
use Rattle.c_charts.proofs.editions.ewma_signal_points.Goals as goal

pub returns-in_default : goal.returns-in_default
returns-in_default c =
    let a = c.args in
    told_left_lem _ _ _ _ (sym (other_points a.asked (told_other a.asked (sym c.in_default.is ∙ c.chart_of.ensures)) a.«data».now a.points.now)) c.answered.ensures

pub returns : goal.returns
returns c =
    let a = c.args in
    let known = told_known a.asked c.in-Some.chart c.in-Some.ensures in
    told_left_lem _ _ _ _
    (c.signal_points.ensures ∙ ap (λ (k : Ewma). signalled k a.«data».now a.points.now) known.1 ∙ sym (known_points a.asked known.0 a.«data».now a.points.now))
    c.answered-2.ensures
