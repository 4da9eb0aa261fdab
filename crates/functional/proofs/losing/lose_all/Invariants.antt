use Rattle.search_rules.specs.Functional.{inner_ball}
use Rattle.functional.specs.Inner.Held.{slot_at, facing_at, Balls, lost_by}
use Rattle.functional.proofs.losing.lose_all.Given as goal

abbrev pub invariant-loop-slot : goal.invariant-loop-slot
invariant-loop-slot l = Balls l.channels l.born l.balls (lost_by l.channels (λ i. inner_ball (facing_at (slot_at l.slots i))) l.slot-index)
