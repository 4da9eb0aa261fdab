use Rattle.std.proofs.Common.{ℕ, refl, ap, ◌∙◌, rules}
use Rattle.std.proofs.Common.{replicate}
use lib.Ieee.{of_bits}
use Rattle.floats.specs.Numbers.{+0}
use Rattle.functional.proofs.PartitionLaws.{begun}
use Rattle.functional.proofs.partition.begin.Goals as goal

pub returns : goal.returns
unfolding of_bits
returns c =
    let a = c.args in
    let p = c.requires in
    begun a.plan c.fill.new.self c.fill-2.new.self a.entries.now a.slots.now c.put_box.new.slot _ p.0 c.told-slots p.4 p.3
    (c.fill.ensures.after (λ y e. search rules) ∙ ap (λ (n : ℕ). replicate n +0) p.1) (c.fill-2.ensures.after (λ y e. search rules) ∙ ap (λ (n : ℕ). replicate n 0) p.2) refl c.put_box.ensures
