-- `inequality::lowest::better_of_four` meets its contract, whether one of the four is below the best or none. Assumes nothing.
use mathlib.Core.Path.{refl, sym, ◌∙◌}
use Rattle.inequality.proofs.LowestLaws.{lowest_four}
use Rattle.inequality.proofs.lowest.better_of_four.Goals as goal

pub returns : goal.returns
returns c = let a = c.args in lowest_four a.penalty a.weights.now a.candidates.now a.j _ _ a.best c.requires.2 refl refl (sym c.one_below.ensures ∙ c.if-one_below.false)
