use mathlib.Core.Path.{◌≡◌}
use lib.ListN.{get_or}
use lib.Ieee.{nan}
use Rattle.floats.specs.Numbers.{◌+ᶠ◌}
use Rattle.inequality.specs.Inner.Weights.{filled}
use Rattle.inequality.proofs.weights.add_least.Given as goal

abbrev pub invariant-loop-j : goal.invariant-loop-j
invariant-loop-j l = l.weights ≡ filled (λ k. get_or l.least k nan +ᶠ get_or l.initial.weights k nan) l.initial.weights l.j
