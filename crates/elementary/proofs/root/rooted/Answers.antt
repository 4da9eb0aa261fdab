-- `elementary::root::rooted` meets its contract. Assumes nothing.
use Rattle.std.proofs.Common.{sym, ◌∙◌}
use Rattle.elementary.proofs.root.Scaled.{scaled_root}
use Rattle.elementary.proofs.root.rooted.Goals as goal

pub returns : goal.returns
returns c =
    let at = c in
    let r = c.guessed-root in
    c.placed.ensures ∙ sym (scaled_root at.args.significand at.args.power r.result at.requires.0 r.ensures)
