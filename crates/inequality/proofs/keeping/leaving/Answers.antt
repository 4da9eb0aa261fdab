-- `inequality::keeping::leaving` meets its contract. The loop's invariant: none of the candidates from `from` up to `j` stays. Assumes nothing.
use mathlib.Core.Path.{sym, subst, ◌∙◌}
use Prim.Native.Nat.{ℕ}
use native.Mathlib.Omega.{arith}
use native.Mathlib.Nat.{le_antisymm}
use Rattle.inequality.specs.Inner.Staying.{Leaving}
use Rattle.inequality.proofs.KeepingLaws.{leaving_none, leaving_more}
use Rattle.inequality.proofs.keeping.leaving.Goals as goal

pub loop-j-init : goal.loop-j-init
loop-j-init c = leaving_none _ _ _ _

pub loop-j-preserved : goal.loop-j-preserved
loop-j-preserved c = leaving_more _ c.loop-j.invariant (omega arith) (sym c.part_below.ensures ∙ c.if-part_below.false)

pub returns : goal.returns
returns c = let a = c.args in (omega arith, omega arith, subst (λ (k : ℕ). Leaving a.bound a.weights.now 0 a.from k) (le_antisymm (omega arith) (omega arith)) c.loop-j.invariant)
