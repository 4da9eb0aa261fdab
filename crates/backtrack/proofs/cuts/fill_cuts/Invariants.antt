use mathlib.Core.Path.{◌≡◌}
use lib.ListN.{length}
use Rattle.std.specs.Prelude.{reverse}
use Rattle.backtrack.specs.Cuts.{cuts_of, written}
use Rattle.backtrack.specs.Inner.Walk.{cuts_back}
use Rattle.backtrack.proofs.cuts.fill_cuts.Given as goal

-- `left` cuts are left, and with them written the area is as promised
abbrev pub invariant-loop-cut : goal.invariant-loop-cut
invariant-loop-cut l =
    let rest = cuts_back l.cut-iterator.indices.now l.cut-iterator.t in
    (l.left ≡ length rest) × (written (reverse rest) l.cuts ≡ written (cuts_of l.indices l.n) l.initial.cuts)
