use Rattle.functional.proofs.SlotLaws.{balled}
use Rattle.functional.proofs.slots.copy_balls.Goals as goal

pub returns : goal.returns
returns c = balled c.args.slot.now c.copy_run.new.slot c.copy_run-2.new.slot c.copy_run-3.new.slot c.args.from.now c.args.count c.requires.1 c.copy_run.ensures c.copy_run-2.ensures c.copy_run-3.ensures
