use Rattle.logarithms.specs.Inner.Stages.{Each, Split}
use Rattle.logarithms.proofs.stages.quotients.Given as goal

abbrev pub invariant-loop-i : goal.invariant-loop-i
invariant-loop-i l = Each Split l.i l.values l.ratios
