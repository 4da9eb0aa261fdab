-- `medians::ends::Cut::at_rank` meets its contract. Assumes nothing.
use Rattle.std.proofs.Common.{rules}
use native.Mathlib.Omega.{arith}
use lib.Ieee.{Float, lt, of_bits}
use Rattle.medians.proofs.RoundLaws.{pivot_number, pivot_found}
use Rattle.medians.proofs.EndLaws.{strict_up, strict_down, largest_found, smallest_found}
use Rattle.medians.proofs.ends.Cut.at_rank.Goals as goal

pub returns-then-rank-self : goal.returns-then-rank-self
unfolding of_bits
returns-then-rank-self c =
    let p = c.requires in
    let x = c.args.self.x.value in
    largest_found x _ c.args.self.run.clear _ _ (c.nearest.ensures (λ (y : Float). lt y x) (λ (y z : Float). lt z y) (λ y b e. search rules) (λ y z b e. search rules) strict_down) (omega (arith, c.args.self.counted.below)) p.2

pub returns-then-rank-self-2 : goal.returns-then-rank-self-2
returns-then-rank-self-2 c = let p = c.requires in pivot_found _ c.args.self.x.clear c.args.self.x.number _ _ (omega (arith, c.args.self.counted.below)) (omega (arith, c.args.self.counted.upto)) c.args.self.run.clear

pub returns-then-next-infinity : goal.returns-then-next-infinity
unfolding of_bits
returns-then-next-infinity c =
    let p = c.requires in
    let x = c.args.self.x.value in
    smallest_found x _ c.args.self.run.clear _ _ (pivot_number _ c.args.self.x.clear c.args.self.x.number) (c.nearest-next.ensures (λ (y : Float). lt x y) (λ (y z : Float). lt y z) (λ y b e. search rules) (λ y z b e. search rules) strict_up) c.if-next-infinity.true (omega (arith, c.args.self.counted.upto)) p.2
