use mathlib.Core.Path.{◌≡◌}
use Rattle.inequality.specs.Inner.Weights.{with_logarithm, filled}
use Rattle.inequality.proofs.normal.put.Given as goal

abbrev pub invariant-loop-j : goal.invariant-loop-j
invariant-loop-j l = l.weights ≡ filled (with_logarithm l.fn.channel l.logarithms l.initial.weights) l.initial.weights l.j
