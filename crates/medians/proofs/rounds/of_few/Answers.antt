-- `medians::rounds::of_few` meets its contract. Assumes nothing.
use native.Mathlib.Omega.{arith}
use Rattle.medians.proofs.RankLaws.{place_ranked}
use Rattle.medians.proofs.rounds.of_few.Goals as goal

pub returns : goal.returns
returns c =
    let p = c.requires in
    let s = c.put_in_order in
    record { high = place_ranked _ _ s.ensures _ (omega (arith, p.0.inside)) p.0.signs; low = λ e. place_ranked _ _ s.ensures _ (omega (arith, p.0.inside)) p.0.signs }
