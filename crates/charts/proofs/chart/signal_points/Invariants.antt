use lib.ListN.{length}
use Rattle.charts.specs.Sides.{signals}
use Rattle.charts.proofs.Loops.{Marking}
use Rattle.charts.proofs.chart.signal_points.Given as goal

abbrev pub invariant-loop-i : goal.invariant-loop-i
invariant-loop-i g l = let m = g.C.Chart in Marking m.shown m.start m.next (λ r. signals (m.side r)) l.chart l.data (length l.data) l.fn.points l.state l.count l.i l.points
