-- `inequality::keeping::join_runs` meets its contract. The loop's invariant: the first `run` parts are done. Assumes nothing.
use mathlib.Core.Path.{refl, subst}
use Prim.Native.Nat.{ℕ, ◌+◌, ◌*◌}
use native.Mathlib.Omega.{arith}
use native.Mathlib.Nat.{le_antisymm}
use Rattle.inequality.specs.Inner.Staying.{Joined}
use Rattle.inequality.proofs.KeepingLaws.{joined_none, joined_more}
use Rattle.inequality.proofs.KeepingLaws.{run_room}
use Rattle.inequality.proofs.keeping.join_runs.Goals as goal

pub loop-run-init : goal.loop-run-init
loop-run-init c = joined_none _ _ _ _

pub loop-run-preserved : goal.loop-run-preserved
loop-run-preserved c = let a = c.args in let l = c.loop-run in let h = run_room a.plan _ _ l.run c.requires.0 (omega arith) in
    joined_more a.plan _ l.parts a.kept a.t l.run (l.run * (a.plan.n + 1)) _ _ l.invariant refl refl (omega (arith, l.invariant.frame.long)) (omega arith) refl

pub returns : goal.returns
returns c = let l = c.loop-run in let a = c.args in subst (λ (r : ℕ). Joined a.plan a.parts.now l.parts a.kept a.t r) (le_antisymm (omega arith) (omega arith)) l.invariant
