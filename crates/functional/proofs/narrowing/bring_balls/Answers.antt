use Rattle.std.proofs.Common.{refl, arith}
use Rattle.functional.proofs.NarrowLaws.{brought_here, brought_before}
use Rattle.functional.proofs.narrowing.bring_balls.Goals as goal

pub returns-then-to-j : goal.returns-then-to-j
returns-then-to-j c =
    let a = c.args in
    let s = c.split_at_mut-front.ensures in
    brought_before a.slots.now _ _ a.to a.j a.count c.told-slots c.requires.1 s.value s.front_len c.if-to-j.true refl c.copy_balls.ensures

pub returns-else-to-j : goal.returns-else-to-j
returns-else-to-j c = brought_here c.args.slots.now c.args.to c.args.j c.args.count (omega arith)
