use Rattle.charts.proofs.Loops.{Recording}
use Rattle.charts.proofs.chart.analyze.Given as goal

abbrev pub invariant-loop-i : goal.invariant-loop-i
invariant-loop-i g l = let m = g.C.Chart in Recording m.shown m.start m.next l.chart l.data l.n l.fn.records l.state l.i l.records
