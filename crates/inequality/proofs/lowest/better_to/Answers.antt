-- `inequality::lowest::better_to` meets its contract. The loop's invariant: `found` is the best of the first `j` candidates. Assumes nothing.
use mathlib.Core.Path.{refl, ap, ◌∙◌}
use native.Mathlib.Omega.{arith}
use native.Mathlib.Nat.{le_antisymm}
use Rattle.inequality.specs.Inner.Weights.{lowest_by}
use Rattle.inequality.proofs.LowestLaws.{lowest_more}
use Rattle.inequality.proofs.lowest.better_to.Goals as goal

pub loop-j-preserved : goal.loop-j-preserved
loop-j-preserved c = let l = c.loop-j in c.better-found.ensures ∙ lowest_more _ _ _ l.j l.found _ _ l.invariant refl refl

pub returns : goal.returns
returns c = let l = c.loop-j in let a = c.args in l.invariant ∙ ap (lowest_by a.penalty a.weights.now a.candidates.now) (le_antisymm (omega arith) (omega arith))
