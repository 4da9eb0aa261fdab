-- `search_rules::minimum::none_yet` meets its contract: the constant is infinity. Assumes nothing.
use mathlib.Core.Path.{refl}
use lib.Ieee.{of_bits}
use Rattle.search_rules.specs.Minimum.{none_yet}
use Rattle.search_rules.proofs.minimum.none_yet.Goals as goal

pub returns : goal.returns
unfolding of_bits none_yet
returns c = refl
