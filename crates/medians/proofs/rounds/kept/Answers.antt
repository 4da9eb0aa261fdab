-- `medians::rounds::kept` meets its contract: what is kept has both ranks. Assumes nothing.
use mathlib.Core.Path.{refl}
use Rattle.std.proofs.Common.{rules}
use lib.Ieee.{Float, lt}
use Rattle.medians.proofs.RoundLaws.{remains_below, remains_above, lies_above}
use Rattle.medians.proofs.rounds.kept.Goals as goal

pub returns-then-ranks-counts : goal.returns-then-ranks-counts
returns-then-ranks-counts c = let p = c.requires in remains_below p.0 p.1 c.if-ranks-counts.true (c.keep.ensures (λ (y : Float). lt y c.args.x.value) (λ y b e. search rules))

pub returns : goal.returns
returns c =
    let p = c.requires in
    remains_above p.0 p.1 c.args.x.number (lies_above c.args.ranks c.args.counts p.2 c.if-ranks-counts.false) (c.keep-2.ensures (λ (y : Float). lt c.args.x.value y) (λ y b e. search rules)) refl refl
