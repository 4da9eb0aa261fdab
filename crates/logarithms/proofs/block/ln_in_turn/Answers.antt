-- `logarithms::block::ln_in_turn` meets its contract. Assumes nothing.
use Rattle.std.proofs.Common.{arith}
use Rattle.std.proofs.lemmas.Grind.{common_steps}
use Rattle.std.proofs.lemmas.List.Edits.{map_over_more}
use Rattle.elementary.specs.Logarithm.{ln}
use Rattle.logarithms.proofs.block.ln_in_turn.Goals as goal

pub loop-value-preserved : goal.loop-value-preserved
loop-value-preserved c = grind (arith, common_steps, map_over_more ln)
