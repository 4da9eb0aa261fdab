-- `inequality::weights::old_enough` meets its contract. Assumes nothing.
use mathlib.Core.Path.{refl}
use Rattle.search_rules.specs.Inequality.{old_enough}
use Rattle.inequality.proofs.weights.old_enough.Goals as goal

pub returns : goal.returns
unfolding old_enough
returns c = refl
