-- The contract of `median_difference` allows one answer and one area. Assumes nothing.
use mathlib.Core.Path.{◌≡◌}
use mathlib.Core.List.{List}
use lib.Ieee.{Float}
use Rattle.logic.proofs.Laws.{one_outcome}
use Rattle.medians.specs.Median.{Found}

pub found_once : {channel before y z : List Float} {r s : Float} → Found channel before y r → Found channel before z s → (r ≡ s) × (y ≡ z)
found_once f g = (one_outcome f.answer g.answer, one_outcome f.run g.run)
