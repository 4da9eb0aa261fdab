-- `search_rules::slack::slack_of` meets its contract. Assumes nothing.
use mathlib.Core.Path.{refl}
use lib.Ieee.{of_bits}
use Rattle.floats.specs.Numbers.{ratio}
use Rattle.search_rules.specs.Functional.{slack_of}
use Rattle.search_rules.proofs.slack.slack_of.Goals as goal

pub returns : goal.returns
unfolding of_bits ratio slack_of
returns c = rw (c.abs-3.ensures, c.abs-2.ensures, c.abs.ensures) refl
