-- `elementary::root::root_by_digits` meets its contract. The loop's invariant is `Found` of `proofs/root/Digits`. Assumes nothing.
use Rattle.std.proofs.Common.{arith}
use Rattle.elementary.proofs.root.Digits.{rest_lt, sign_turn, with_left}
use Rattle.elementary.proofs.root.root_by_digits.Goals as goal

pub overflow_add-rest : goal.overflow_add-rest
overflow_add-rest c =
    let turn = sign_turn _ _ _ _ _ _ _ (omega arith) c.loop-turn.invariant c.wrapping_sub_u64-difference.type_inv c.wrapping_sub_u64-difference.ensures.value c.wrapping_add_u64-rest.ensures.value in
    omega (arith, rest_lt _ _ _ _ _ turn, turn.small)

pub loop-turn-preserved : goal.loop-turn-preserved
loop-turn-preserved c = with_left (omega arith) (sign_turn _ _ _ _ _ _ _ (omega arith) c.loop-turn.invariant c.wrapping_sub_u64-difference.type_inv c.wrapping_sub_u64-difference.ensures.value c.wrapping_add_u64-rest.ensures.value)
