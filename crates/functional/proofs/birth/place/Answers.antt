use Rattle.std.proofs.Common.{refl, ap, set}
use Rattle.functional.proofs.birth.place.Goals as goal

pub returns : goal.returns
returns c = record { between = c.copy_balls.new.slot; balls = c.copy_balls.ensures; put = ap (set c.args.slots.now c.args.j) c.put_box.ensures; entry = refl }
