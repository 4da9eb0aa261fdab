-- `inequality::normal::add_block` meets its contract: the variances, their logarithms, and the costs added. Assumes nothing.
use native.Mathlib.Omega.{arith}
use lib.ListN.{length}
use Rattle.inequality.proofs.WeightLaws.{block_added}
use Rattle.inequality.proofs.normal.add_block.Goals as goal

pub returns : goal.returns
returns c = let a = c.args in block_added a.channel a.weights.now c.vary.new.values c.ln_each.new.values c.put.new.weights (length a.values.now) c.vary.ensures c.ln_each.ensures (omega arith) c.put.ensures
