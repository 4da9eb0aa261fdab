use Rattle.std.proofs.Common.{◌≡◌, take}
use Rattle.std.specs.List.{count_by}
use Rattle.logarithms.specs.Inner.Stages.{plain}
use Rattle.logarithms.proofs.plain.plain_count.Given as goal

abbrev pub invariant-loop-value : goal.invariant-loop-value
invariant-loop-value l = l.found ≡ count_by plain (take l.value-index l.values)
