use Rattle.search_rules.specs.Functional.{facing}
use Rattle.functional.specs.Inner.Held.{task, tau_at, put_facing, Mapped}
use Rattle.functional.proofs.faces.face_all.Given as goal

abbrev pub invariant-loop-j : goal.invariant-loop-j
invariant-loop-j l = Mapped (λ i slot. put_facing slot (facing (task l.plan) l.f (tau_at l.entries i) l.b)) l.initial.slots l.slots l.j
