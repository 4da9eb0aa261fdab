-- `inequality::steps::search` meets its contract. The loop's invariant: the areas hold the state after the steps before `t`. Assumes nothing.
use native.Mathlib.Omega.{arith}
use native.Mathlib.Nat.{le_antisymm}
use Rattle.inequality.proofs.StepLaws.{holds_at}
use Rattle.inequality.proofs.steps.search.Goals as goal

pub returns : goal.returns
returns c = holds_at (le_antisymm (omega arith) (omega arith)) c.loop-t.invariant.4
