-- `ewma::resting::limits_at_first` meets its contract: 1 less the decay of place 0 is +0. Assumes nothing.
use mathlib.Core.Path.{◌≡◌, refl}
use lib.Ieee.{of_bits, of_int, sub}
use Rattle.floats.specs.Numbers.{+0}
use Rattle.elementary.specs.Power.{pow_from, powi}
use Rattle.ewma.specs.declared.Ewma.{Ewma}
use Rattle.ewma.specs.Chart.{half_width_at}
use Rattle.ewma.specs.Settled.{width_at, settled_of}
use Rattle.ewma.proofs.resting.limits_at_first.Goals as goal

first_width : (c : Ewma) → width_at c +0 ≡ half_width_at c (record { 0 = 0 })
unfolding width_at half_width_at powi pow_from sub of_int
first_width c = refl

pub returns : goal.returns
unfolding settled_of of_bits of_int
returns c = rw (c.width_at-2.ensures, c.width_at.ensures, c.settled_from.ensures, settled_of, first_width _)
