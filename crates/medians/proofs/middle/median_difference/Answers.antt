-- `medians::middle::median_difference` meets its contract, whether `run` fits or not. Assumes nothing.
use mathlib.Core.Path.{refl, ◌∙◌, sym}
use lib.Ieee.{of_bits}
use Rattle.medians.proofs.MedianLaws.{fits_long, run_left}
use Rattle.medians.proofs.middle.median_difference.Goals as goal

pub worked_out-requires : goal.worked_out-requires
worked_out-requires c = let l = fits_long _ _ (sym c.fits.ensures ∙ c.if-fits.true) in (l.1, l.0)

pub returns : goal.returns
unfolding of_bits
returns c = run_left (sym c.fits.ensures ∙ c.if-fits.false) refl
