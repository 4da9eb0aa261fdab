-- `ewma::step::step_by` meets its contract. Assumes nothing.
use mathlib.Core.Path.{◌≡◌, sym, ◌∙◌}
use mathlib.Core.Bool.{true, false}
use lib.Ieee.{of_bits, of_int}
use Rattle.floats.specs.Finite.{finite}
use Rattle.ewma.specs.Settled.{step_by}
use Rattle.ewma.proofs.step.step_by.Goals as goal

pub returns-then-finite : goal.returns-then-finite
unfolding step_by of_bits of_int
returns-then-finite c =
    let e : finite c.args.x ≡ true = sym c.finite.ensures ∙ c.if-finite.true in
    rw (c.side_of-side.ensures, step_by, e)

pub returns-else-finite : goal.returns-else-finite
unfolding step_by of_bits of_int
returns-else-finite c = let e : finite c.args.x ≡ false = sym c.finite.ensures ∙ c.if-finite.false in
    rw (step_by, e)
