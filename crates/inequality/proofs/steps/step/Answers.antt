-- `inequality::steps::step` meets its contract: what its calls have done is a step of the recurrence. Assumes nothing.
use mathlib.Core.Path.{◌∙◌}
use native.Mathlib.Omega.{arith}
use lib.Seq.{length-take-le}
use Rattle.inequality.proofs.WeightLaws.{below_fewer}
use Rattle.inequality.proofs.StepLaws.{holds_next, stepped_parts, count_few, shown_below, shown_rising, room_parts}
use Rattle.inequality.proofs.steps.step.Goals as goal

pub old_count-old-requires : goal.old_count-old-requires
old_count-old-requires c = let a = c.args in let p = c.requires in (shown_below a.predecessors.now a.candidates.now p.2 p.0, shown_rising a.predecessors.now a.candidates.now p.2 p.0)

pub weigh-requires : goal.weigh-requires
weigh-requires c =
    let a = c.args in
    let p = c.requires in
    let room = room_parts a.parts.now a.weights.now a.predecessors.now a.candidates.now p.0.room in
    let old = c.old_count-old.result in
    let all = length-take-le a.count a.candidates.now (omega (arith, count_few p.0, p.2, p.3, room.c)) in
    let few = length-take-le old a.candidates.now (omega (arith, all, c.old_count-old.ensures.few, count_few p.0, p.2, p.3, room.c)) in (
      record { short = room.short; few = room.few; some = room.some; ripe = room.ripe; f = room.f; p = room.p; floats = room.floats; last = room.last; c = omega arith },
      p.1,
      p.3,
      omega (arith, all, few, c.old_count-old.ensures.few),
      count_few p.0,
      below_fewer a.t a.candidates.now a.count old (omega (arith, all, c.old_count-old.ensures.few)) (omega (arith, count_few p.0, p.2, p.3, room.c)) (shown_below a.predecessors.now a.candidates.now p.2 p.0),
    )

pub returns : goal.returns
returns c =
    let a = c.args in
    let p = c.requires in
    let room = room_parts a.parts.now a.weights.now a.predecessors.now a.candidates.now p.0.room in
    let old = c.old_count-old.result in
    let all = length-take-le a.count a.candidates.now (omega (arith, count_few p.0, p.2, p.3, room.c)) in
    let size = length-take-le old a.candidates.now (omega (arith, all, c.old_count-old.ensures.few, count_few p.0, p.2, p.3, room.c)) in
    let many = length-take-le old c.weigh.new.weights (omega (arith, all, c.old_count-old.ensures.few, count_few p.0, p.3, room.floats, p.1, c.weigh.auto.weights)) in
    holds_next p.0.from (stepped_parts a.run.now a.plan a.parts.now a.weights.now c.weigh.new.weights c.retain-kept.new.parts c.join_runs.new.parts a.predecessors.now a.candidates.now c.retain-kept.new.candidates a.count a.t old c.retain-kept.result _ _ c.lowest-best.result _ p.0
    p.1 p.2 (c.retain-kept.auto.parts ∙ p.1) p.3 c.old_count-old.ensures size c.weigh.ensures many c.lowest-best.ensures c.retain-kept.ensures.0 c.retain-kept.ensures.1 c.join_runs.ensures)
