-- `ewma::resting::limits_after` meets its contract. Assumes nothing.
use native.Mathlib.Omega.{arith}
use Rattle.ewma.proofs.Places.{place_from_within}
use Rattle.ewma.proofs.resting.limits_after.Goals as goal

pub place_from-place-requires : goal.place_from-place-requires
place_from-place-requires c = c.requires

pub width_from-half_width-requires : goal.width_from-half_width-requires
width_from-half_width-requires c =
    let a = c.args in
    rw c.place_from-place.ensures (omega (arith, place_from_within a.chart a.limits.place a.index a.x, c.requires))

pub returns : goal.returns
returns c = rw (c.width_from-half_width.ensures, c.place_from-place.ensures)
