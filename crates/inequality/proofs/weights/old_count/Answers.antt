-- `inequality::weights::old_count` meets its contract. The loop's invariant: the candidates from `last` on are young. Assumes nothing.
use mathlib.Core.Path.{refl, sym, ◌∙◌}
use Prim.Native.Nat.{◌+◌, ◌-◌}
use native.Mathlib.Omega.{arith}
use Rattle.inequality.proofs.WeightLaws.{parted_here, parted_none, young_more}
use Rattle.inequality.proofs.weights.old_count.Goals as goal

pub loop-last-init : goal.loop-last-init
loop-last-init c j h l = absurd (omega arith)

pub returns-then-old_enough : goal.returns-then-old_enough
returns-then-old_enough c = let a = c.args in let l = c.loop-last in
    parted_here a.m a.t a.candidates.now (l.last - 1 + 1) (l.last - 1) _ c.requires.1 (omega arith) (omega arith) (omega arith) refl (sym c.old_enough.ensures ∙ c.if-old_enough.true) (λ j h k. l.invariant j (omega arith) k)

pub loop-last-preserved : goal.loop-last-preserved
loop-last-preserved c = let a = c.args in let l = c.loop-last in
    young_more a.m a.t a.candidates.now l.last (l.last - 1) (omega arith) (sym c.old_enough.ensures ∙ c.if-old_enough.false) l.invariant

pub returns : goal.returns
returns c = let a = c.args in let l = c.loop-last in parted_none a.m a.t a.candidates.now (λ j h k. l.invariant j (omega arith) k)
