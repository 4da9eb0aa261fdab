-- `inequality::keeping::retain_run` meets its contract. The loop's invariant: the first `i` values are looked at, and `kept` of them moved. Assumes nothing.
use native.Mathlib.Omega.{arith}
use native.Mathlib.Nat.{le_antisymm}
use lib.ListN.{length}
use Rattle.inequality.proofs.KeepingLaws.{retained_leaving, retained_all, slice_yes, slice_no}
use Rattle.inequality.proofs.keeping.retain_run.Goals as goal
use Rattle.inequality.proofs.keeping.retain_run.Goals.{then-weights-i, else-weights-i}

pub loop-i-init : goal.loop-i-init
loop-i-init g c = let p = c.requires in record { few = p.0; each = λ d. retained_leaving _ _ 0 d _ 0 _ _ _ p.3 p.4 p.0 p.1 (omega arith) }

pub loop-i-preserved : goal.loop-i-preserved
loop-i-preserved g c = let a = c.args in let l = c.loop-i in let n = length a.values.now in
    record {
      few = elim c.if-weights-i.branch [ then-weights-i w ↦ omega arith | else-weights-i w ↦ omega arith ];
      each = λ d. elim c.if-weights-i.branch [
        | then-weights-i w ↦ slice_yes a.bound a.weights.now d a.values.now l.values n l.i l.kept _ c.index-values-i.result (l.invariant.each d) (omega arith) (omega arith) w.if-weights-i.true c.index-values-i.is w.kept-is
        | else-weights-i w ↦ slice_no a.bound a.weights.now d a.values.now l.values n l.i l.kept _ c.index-values-i.result (l.invariant.each d) (omega arith) (omega arith) w.if-weights-i.false w.kept-is
      ];
    }

pub returns : goal.returns
returns g c = λ d. retained_all _ _ 0 d _ _ _ _ _ _ _ (le_antisymm (omega arith) (omega arith)) (c.loop-i.invariant.each d)
