use Rattle.std.proofs.Common.{sym, ◌∙◌, arith}
use Rattle.functional.proofs.StepLaws.{searched_stopped, searched_through}
use Rattle.functional.proofs.steps.search.Goals as goal

pub returns-then-slots-count : goal.returns-then-slots-count
returns-then-slots-count c =
    searched_stopped c.step-count.ensures (omega arith) (sym (c.step-count.auto.slots ∙ c.loop-t.auto.slots)) c.if-slots-count.true

pub returns : goal.returns
returns c = searched_through c.loop-t.invariant (omega (arith, c.requires.sound.ripe)) (sym c.loop-t.auto.slots)
