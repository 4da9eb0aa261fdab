use Rattle.std.proofs.Common.{◌∙◌, length-set, arith}
use Rattle.functional.proofs.StepLaws.{lives_below, front_below, best_is, stepped_young, stepped_birth}
use Rattle.functional.proofs.steps.step.Goals as goal

pub best_of-best-requires : goal.best_of-best-requires
best_of-best-requires c =
    let h = c.requires.0 in
    (h.sound, h.long_f, c.requires.1, front_below h c.requires.1)

pub returns-then-b-plan : goal.returns-then-b-plan
returns-then-b-plan c =
    let a = c.args in
    let h = c.requires.0 in
    let d = c.best_of-best in
    stepped_young a.plan a.f.now a.last.now a.entries.now a.slots.now a.count a.t h c.requires.1 d.result (best_is d.result h c.requires.1 d.ensures) c.if-b-plan.true

pub birth-requires : goal.birth-requires
birth-requires c =
    let a = c.args in
    let h = c.requires.0 in
    let s = h.sound in
    let l = c.if-b-plan.false in (
      s,
      length-set a.f.now a.t c.best_of-best.result.cost ∙ h.long_f,
      h.room,
      omega (arith, s.some, c.requires.1),
      omega (arith, s.some, h.fewer, c.requires.1),
      h.few,
      lives_below _ h (omega (arith, s.some)) (omega (arith, h.from)),
      h.sane,
    )

pub returns : goal.returns
returns c =
    let a = c.args in
    let h = c.requires.0 in
    let d = c.best_of-best in
    let v = c.birth in
    stepped_birth a.plan a.f.now a.last.now a.entries.now a.slots.now a.count a.t h c.requires.1 d.result (best_is d.result h c.requires.1 d.ensures) _ _ _ c.if-b-plan.false v.auto.entries v.auto.slots v.ensures
