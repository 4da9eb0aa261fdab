use mathlib.Core.Path.{◌≡◌}
use Prim.Native.Nat.{◌-◌, ◌*◌, ◌^◌}
use Rattle.ewma.specs.Settled.{settled_from}
use Rattle.ewma.proofs.resting.settled_from.Given as goal

abbrev pub invariant-loop-turn : goal.invariant-loop-turn
invariant-loop-turn l = (settled_from (13 - l._turn) l.place l.faded ≡ settled_from 13 1 l.decay) × (l.place * 2 ^ (13 - l._turn) ≡ 8192)
