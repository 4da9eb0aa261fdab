-- `medians::middle::apart` meets its contract: of the difference and its opposite the larger is the magnitude. Assumes nothing.
use mathlib.Core.Path.{◌∙◌}
use lib.Ieee.{of_bits}
use lib.Ieee.Fits.{sub-fits}
use lib.Ieee.{binary64}
use Rattle.medians.proofs.MagnitudeLaws.{larger_opposite}
use Rattle.medians.proofs.middle.apart.Goals as goal

pub returns : goal.returns
unfolding of_bits
returns c = c.upper.ensures ∙ larger_opposite _ (sub-fits binary64 c.args.x c.args.y)
