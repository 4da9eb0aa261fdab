-- `ewma::run_points` meets its contract: the run of states shows the chart's own records. Assumes nothing.
use mathlib.Core.Path.{◌∙◌}
use Rattle.ewma.specs.Chart.{tests_of}
use Rattle.ewma.proofs.AtRest.{settled_signalled}
use Rattle.ewma.proofs.run_points.Goals as goal

pub returns : goal.returns
unfolding tests_of
returns c = c.signal_points.ensures ∙ settled_signalled _ _ _
