use mathlib.Core.Path.{◌≡◌}
use Rattle.inequality.specs.Inner.Weights.{variance_at, filled}
use Rattle.inequality.proofs.normal.vary.Given as goal

abbrev pub invariant-loop-j : goal.invariant-loop-j
invariant-loop-j l = l.values ≡ filled (variance_at l.fn.channel) l.initial.values l.j
