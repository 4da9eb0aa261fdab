-- `ewma::chart::EwmaChart::in_range` meets its contract. Assumes nothing.
use mathlib.Core.Path.{refl}
use lib.Ieee.{of_bits, of_int}
use Rattle.ewma.proofs.chart.EwmaChart.in_range.Goals as goal

pub returns : goal.returns
unfolding of_bits of_int
returns c = rw (c.finite-2.ensures, c.finite.ensures, c.finite-target.ensures) refl
