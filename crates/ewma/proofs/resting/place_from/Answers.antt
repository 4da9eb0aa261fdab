-- `ewma::resting::place_from` meets its contract, by the edition. Assumes nothing.
use native.Mathlib.Omega.{arith}
use Rattle.ewma.proofs.Places.{at_most_index}
use Rattle.ewma.proofs.resting.place_from.Goals as goal

pub overflow_add-result-then-finite : goal.overflow_add-result-then-finite
overflow_add-result-then-finite c =
    let a = c.args in
    omega (arith, c.at_most-before.ensures, at_most_index a.last.0 a.index, c.requires)
