use Rattle.std.proofs.Common.{◌≡◌}
use Rattle.costs.specs.Summed.{area_cost_to}
use Rattle.costs.proofs.summed.add_channels.Given as goal

abbrev pub invariant-loop-c : goal.invariant-loop-c
invariant-loop-c l = l.sum ≡ area_cost_to l.cost l.area l.channels.length l.span.start l.span.end l.c
