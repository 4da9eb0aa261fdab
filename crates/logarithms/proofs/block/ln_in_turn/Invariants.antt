use Rattle.std.proofs.Common.{◌≡◌}
use Rattle.logarithms.proofs.EachLaws.{done_to}
use Rattle.logarithms.proofs.block.ln_in_turn.Given as goal

abbrev pub invariant-loop-value : goal.invariant-loop-value
invariant-loop-value l = l.values ≡ done_to l.value-index l.initial.values
