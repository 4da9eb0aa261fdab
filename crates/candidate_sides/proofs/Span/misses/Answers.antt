use Rattle.std.proofs.Common.{not, T, sym, ap, ◌∙◌, subst}
use lib.Ieee.{Float, binary64, fits}
use lib.Ieee.Bits.{of_bits-to_bits}
use Rattle.floats.specs.Numbers.{◌≤ᶠ◌}
use Rattle.elementary.specs.Root.{sqrt}
use Rattle.candidate_sides.specs.Slabs.{inside}
use Rattle.candidate_sides.proofs.SlabLaws.{nothing_cut}
use Rattle.candidate_sides.proofs.Span.misses.Goals as goal

pub returns-then-contains : goal.returns-then-contains
unfolding inside
returns-then-contains c e =
    let s = c in
    let held : T (fits binary64 s.args.square) = subst T (sym s.well_formed.1.1.0.1) tt in
    nothing_cut s.args.self s.args.c (sqrt s.args.square) s.above_root.result
    (subst (λ (x : Float). T (sqrt x ≤ᶠ s.above_root.result)) (of_bits-to_bits binary64 s.args.square held) s.above_root.ensures.0) s.above_root.ensures.1
    (rw s.about.ensures at (sym (ap not s.ends_in.ensures) ∙ e))
