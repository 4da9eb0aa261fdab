-- `medians::middle::fits` meets its contract. Assumes nothing.
use Rattle.medians.proofs.MedianLaws.{fits_by_one, no_places, too_many_places}
use Rattle.medians.proofs.middle.fits.Goals as goal

pub returns-then-places-readings : goal.returns-then-places-readings
returns-then-places-readings c = fits_by_one _ _ c.if-places-gt0.true c.if-places-readings.true

pub returns-else-places-readings : goal.returns-else-places-readings
returns-else-places-readings c = too_many_places _ _ c.if-places-readings.false

pub returns-else-places-gt0 : goal.returns-else-places-gt0
returns-else-places-gt0 c = no_places _ _ c.if-places-gt0.false
