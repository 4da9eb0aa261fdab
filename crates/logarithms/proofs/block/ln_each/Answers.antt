-- `logarithms::block::ln_each` meets its contract. Block after block is done. Assumes nothing.
use native.Mathlib.Nat.{le_of_lt}
use Rattle.logarithms.proofs.EachLaws.{done_more}
use Rattle.logarithms.proofs.block.ln_each.Goals as goal

pub loop-start-preserved : goal.loop-start-preserved
loop-start-preserved c = let l = c.loop-start in let b = c.block_end-end.ensures in (b.1, done_more c.args.values.now l.values c.ln_block.new.values l.start c.block_end-end.result (le_of_lt b.0) b.1 l.invariant.1 c.ln_block.ensures)
