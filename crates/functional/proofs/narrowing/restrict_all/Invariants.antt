use Rattle.functional.specs.Inner.Held.{put_box, narrowed_at, Mapped, Remarked}
use Rattle.functional.proofs.narrowing.restrict_all.Given as goal

abbrev pub invariant-loop-j : goal.invariant-loop-j
invariant-loop-j l = record {
  boxes : Mapped (λ i slot. put_box slot (narrowed_at l.channels slot)) l.initial.slots l.slots l.j;
  words : Remarked l.channels l.initial.slots l.initial.entries l.entries l.j;
}
