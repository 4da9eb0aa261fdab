-- `medians::rounds::found` meets its contract: what is found in what a round leaves is what was looked for. Assumes nothing.
use Prim.Native.Nat.{◌<◌}
use mathlib.Core.Path.{sym, ◌∙◌}
use native.Mathlib.Omega.{arith}
use lib.ListN.{length}
use Rattle.medians.proofs.RoundLaws.{middle_after, more_inside}
use Rattle.medians.proofs.rounds.+found.Goals as goal

pub returns : goal.returns
returns t c =
    let inside : c.args.ranks.second < length c.args.run.now = more_inside _ c.args.ranks _ (sym c.goes_on.ensures ∙ c.if-not-goes_on.false) in
    let w = c.found.ensures in
    (λ l. middle_after c.kept-left.ensures.1 w.0 w.1, λ l. absurd (omega (arith, inside, l)))
