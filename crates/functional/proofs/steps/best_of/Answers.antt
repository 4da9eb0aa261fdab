use Rattle.search_rules.specs.Minimum.{scan_to}
use Rattle.functional.proofs.StepLaws.{scanned_more}
use Rattle.functional.proofs.steps.best_of.Goals as goal

pub loop-tau-init : goal.loop-tau-init
unfolding scan_to
loop-tau-init c = c.none_yet-best.ensures

pub loop-tau-preserved : goal.loop-tau-preserved
loop-tau-preserved c = scanned_more _ c.args.entries.now _ c.loop-tau.tau-index _ _ _ c.loop-tau.invariant c.loop-tau-test.true c.total_of.ensures c.better-best.ensures
