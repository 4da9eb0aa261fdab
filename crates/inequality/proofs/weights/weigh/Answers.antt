-- `inequality::weights::weigh` meets its contract: the costs, F in front, and minus infinity behind them. Assumes nothing.
use mathlib.Core.Path.{◌≡◌, refl, ◌∙◌}
use mathlib.Core.List.{◌++◌}
use Prim.Native.Nat.{◌+◌, ◌-◌}
use native.Mathlib.Omega.{arith}
use lib.ListN.{length, take, drop, length-take, length-drop, length-append}
use lib.Seq.{length-take-le}
use lib.Ieee.{of_bits}
use Rattle.inequality.proofs.WeightLaws.{weighed_by}
use Rattle.inequality.proofs.weights.weigh.Goals as goal

pub invariant_of-view : goal.invariant_of-view
invariant_of-view c = let a = c.args in let room = c.requires.0 in
    record {
      small = omega arith;
      early = omega arith;
      few = omega arith;
      below = c.requires.5.below;
    }

pub returns : goal.returns
unfolding of_bits
returns c = let a = c.args in let room = c.requires.0 in let old = length a.candidates.now in
    let many : length (take old a.weights.now) ≡ old = length-take-le old a.weights.now (omega (arith, room.floats)) in
    let young : length (take (a.count - old) (drop old (c.add_least.new.weights ++ drop old a.weights.now))) ≡ a.count - old =
    simp (length-take, length-drop, length-append) (omega (arith, many, c.add_channels.auto.weights, c.add_least.auto.weights, room.floats)) in
    weighed_by a.plan _ (a.parts.now ++ a.weights.now) a.parts.now a.weights.now c.add_channels.new.weights c.add_least.new.weights c.fill.new.self a.candidates.now (a.plan.c + (a.plan.n + 1)) old a.count a.t _ _ _ _
    (rw (length-append) room) (omega arith) (omega arith) c.requires.2 refl c.requires.1 refl refl refl refl
    many c.add_channels.ensures (c.add_channels.auto.weights ∙ many) c.add_least.ensures young refl (c.fill.ensures.after (λ y e. e))
