use mathlib.Core.Bool.{Bool}
use lib.Ieee.{Float}
use Rattle.medians.specs.Inner.Rounds.{Computes, Compares, Strict, Nearest}
use Rattle.medians.proofs.ends.nearest.Given as goal

abbrev pub invariant-loop-value : goal.invariant-loop-value
invariant-loop-value g l = (p : Float → Bool) (q : Float → Float → Bool) → Computes (goal.S-post g l.side) p → Compares (goal.N-post g l.nearer) q → Strict q → Nearest p q l.start l.run l.value-index l.best
