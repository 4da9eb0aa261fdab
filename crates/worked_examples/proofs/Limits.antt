-- The limits that a user sees, in the numbers of the rules: with another number in a definition and in the code alike this does not prove. Assumes nothing.
use mathlib.Core.Path.{◌≡◌, refl}
use Rattle.refusals.specs.Limits.{max_channels, max_readings}
use Rattle.candidate_balls.specs.Losing.{losing_balls}
use Rattle.search_rules.specs.Limits.{least_minimum, functional_channels, slot_floats}

pub limits : (max_channels ≡ 8) × (max_readings ≡ 4096) × (least_minimum ≡ 2) × (functional_channels ≡ 2) × (slot_floats ≡ 200) × (losing_balls ≡ 64)
limits = (refl, refl, refl, refl, refl, refl)
