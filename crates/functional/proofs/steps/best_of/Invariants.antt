use Rattle.std.proofs.Common.{◌≡◌, true, get_or, length}
use lib.Ieee.{nan}
use Rattle.floats.specs.Numbers.{◌+ᶠ◌}
use Rattle.search_rules.specs.Minimum.{scan_to}
use Rattle.search_rules.specs.Functional.{price}
use Rattle.functional.specs.Inner.Held.{task, taus}
use Rattle.functional.proofs.steps.best_of.Given as goal

abbrev pub invariant-loop-tau : goal.invariant-loop-tau
invariant-loop-tau l = l.best ≡ scan_to (λ tau. true) (λ tau. get_or l.f tau nan +ᶠ price (task l.plan) tau l.t +ᶠ l.plan.penalty) (taus l.entries (length l.entries)) l.tau-index
