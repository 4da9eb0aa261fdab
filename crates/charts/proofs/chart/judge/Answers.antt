-- `charts::chart::judge` meets its contract. Assumes nothing.
use mathlib.Core.Path.{◌∙◌}
use Rattle.charts.proofs.SettingLaws.{admitted_tested}
use Rattle.charts.proofs.chart.judge.Goals as goal

pub returns : goal.returns
returns g c = (rw (c.tested.ensures, c.in_range.ensures) at c.admitted.ensures) ∙ admitted_tested _ _ _
