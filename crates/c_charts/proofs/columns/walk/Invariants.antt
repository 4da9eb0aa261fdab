use Rattle.c_charts.proofs.WalkLaws.{Walking}
use Rattle.c_charts.proofs.columns.walk.Given as goal

abbrev pub invariant-loop-i : goal.invariant-loop-i
invariant-loop-i g l = let m = g.C.Chart in Walking m.shown m.start m.next g.W.Columns.put l.chart l.data l.fn.columns l.state l.i l.columns
