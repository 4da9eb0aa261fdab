-- `c_charts::cusum_columns::cusum_analyze` meets its contract: the walk's columns are the lent arrays. Assumes nothing.
use borrow.Author.Rules.{rules}
use Rattle.cusum.specs.Chart.{tests_of}
use Rattle.c_charts.proofs.CusumLaws.{walked}
use Rattle.c_charts.proofs.cusum_columns.cusum_analyze.Goals as goal

pub returns : goal.returns
unfolding tests_of
returns c =
    let left = walked c.args.chart c.args.«data».now _ _ c.walk.ensures.written in
    search rules
