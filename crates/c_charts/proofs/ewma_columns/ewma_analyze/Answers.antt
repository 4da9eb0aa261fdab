-- `c_charts::ewma_columns::ewma_analyze` meets its contract: the walk's columns are the lent arrays. Assumes nothing.
use borrow.Author.Rules.{rules}
use mathlib.Core.Path.{sym, ◌∙◌}
use Rattle.ewma.specs.Chart.{tests_of}
use Rattle.c_charts.proofs.EditionLaws.{told_known, told_other}
use Rattle.c_charts.proofs.EwmaLaws.{arrays_are, arrays_other, walked}
use Rattle.c_charts.proofs.ewma_columns.ewma_analyze.Goals as goal

pub returns-in_default : goal.returns-in_default
returns-in_default c = arrays_other c.args.asked (told_other c.args.asked (sym c.in_default.is ∙ c.chart_of.ensures)) _ _ _ _ _ _ _ c.answered.ensures

pub returns : goal.returns
unfolding tests_of
returns c =
    let a = c.args in
    let left = walked c.in-Some.chart a.«data».now _ _ c.walk.ensures.written in
    let are = arrays_are a.asked c.in-Some.chart (told_known a.asked c.in-Some.chart c.in-Some.ensures) a.«data».now a.ewma.now a.ucl.now a.lcl.now a.side.now a.index.now in
    search rules
