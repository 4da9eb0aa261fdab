-- `c_search::search` meets its contract: the search of `search`, or refusal 10. Assumes nothing.
use mathlib.Core.Path.{◌≡◌, ap}
use Rattle.costs.specs.declared.CostFunction.{CostFunction}
use Rattle.costs.specs.declared.Penalty.{Penalty}
use Rattle.c_search.specs.Asked.{cost_of, penalty_of}
use Rattle.refusals.specs.declared.Refusal.TheVariants as Refusal
use Rattle.c_search.proofs.AskedLaws.{named, unnamed, goes_on, stops}
use Rattle.c_search.proofs.search.Goals as goal

pub returns-in-Some : goal.returns-in-Some
returns-in-Some c =
    let s = named _ _ c.in-Some.ensures in
    let cost : c.in-Some.cost ≡ cost_of c.args.cost = let same = ap (λ (p : CostFunction × Penalty). p.0) s.1 in cc in
    let penalty : c.in-Some.penalty ≡ penalty_of c.args.penalty_kind c.args.penalty = let same = ap (λ (p : CostFunction × Penalty). p.1) s.1 in cc in
    goes_on _ _ _ _ Refusal.Form _ _ _ s.0 (rw (cost, penalty) at c.find_cuts.ensures) c.told_cuts.ensures

pub returns-in-None : goal.returns-in-None
returns-in-None c = stops _ _ _ _ Refusal.Form _ (unnamed _ _ c.in-None.ensures) c.refused.ensures
