use Prim.Native.Nat.{◌≤◌}
use lib.ListN.{length}
use Rattle.inequality.specs.Inner.Staying.{Retained}
use Rattle.inequality.proofs.keeping.retain_run.Given as goal

abbrev pub invariant-loop-i : goal.invariant-loop-i
invariant-loop-i g l = record { few : l.kept ≤ l.i; each : (d : _) → Retained l.bound l.weights 0 d l.initial.values l.values 0 (length l.initial.values) l.i l.kept }
