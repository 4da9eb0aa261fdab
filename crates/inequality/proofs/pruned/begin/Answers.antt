-- `inequality::pruned::begin` meets its contract. Assumes nothing.
use mathlib.Core.Path.{refl}
use lib.Ieee.{neg}
use Rattle.inequality.proofs.BeginLaws.{begun}
use Rattle.inequality.proofs.pruned.begin.Goals as goal

pub returns : goal.returns
returns c = let a = c.args in begun a.run.now a.plan a.floats.now c.channel_sums.new.area a.indices.now c.clear.new.area (neg a.plan.penalty) c.requires.0 c.requires.1 c.channel_sums.ensures c.clear.ensures refl
