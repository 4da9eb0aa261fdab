-- `elementary::parts::placed` meets its contract. Assumes nothing.
use Rattle.std.proofs.Common.{Bool, not, T, sym, subst}
use Rattle.elementary.proofs.parts.Values.{placed_is, placed_no_nan}
use Rattle.elementary.proofs.parts.placed.Goals as goal

pub float_from_bits-result : goal.float_from_bits-result
float_from_bits-result c =
    let p = c.requires in
    subst (λ (b : Bool). T (not b)) (sym (placed_no_nan c.args.significand c.args.places p.0 p.1 p.2)) tt

pub returns : goal.returns
returns c = let p = c.requires in placed_is c.args.significand c.args.places p.0 p.1 p.2
