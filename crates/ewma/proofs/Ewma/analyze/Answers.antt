-- `ewma::Ewma::analyze` meets its contract: the run of states shows the chart's own records. Assumes nothing.
use mathlib.Core.Path.{◌∙◌}
use Rattle.ewma.specs.Chart.{tests_of}
use Rattle.ewma.proofs.AtRest.{settled_analyzed}
use Rattle.ewma.proofs.Ewma.analyze.Goals as goal

pub returns : goal.returns
unfolding tests_of
returns c = c.analyze.ensures ∙ settled_analyzed _ _ _
