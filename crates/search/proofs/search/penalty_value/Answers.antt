-- `search::search::penalty_value` meets its contract: the noise is worked out only where the penalty asks for it. Assumes nothing.
use mathlib.Core.Path.{refl, sym, ◌∙◌}
use Rattle.search.proofs.FindingLaws.{penalty_found, penalty_plain}
use Rattle.search.proofs.search.penalty_value.Goals as goal

pub returns-then-asks_noise : goal.returns-then-asks_noise
returns-then-asks_noise c = (penalty_found _ _ _ _ _ c.requires.2 c.noise_sum-noise.ensures c.resolve_penalty.ensures, c.noise_sum-noise.auto.area)

pub returns : goal.returns
returns c = (penalty_plain _ _ _ _ _ _ (sym c.asks_noise.ensures ∙ c.if-asks_noise.false) c.resolve_penalty-2.ensures, refl)
