-- `logarithms::plain::exponent` meets its contract. Assumes nothing.
use mathlib.Core.Path.{sym, ap, ◌∙◌, subst}
use Prim.Native.Nat.{ℕ, ◌≤◌, ◌+◌, ◌/◌, ◌^◌}
use native.Mathlib.Omega.{arith}
use lib.Dec.{T}
use lib.IntN.{pos, ◌-ℤ◌}
use lib.Ieee.{binary64, of_int}
use Rattle.elementary.proofs.Laws.{difference_kept}
use Rattle.logarithms.specs.Inner.Stages.{exponent_of}
use Rattle.logarithms.proofs.PlainLaws.{high_bound}
use Rattle.logarithms.proofs.plain.exponent.Goals as goal

pub returns : goal.returns
unfolding exponent_of
returns c =
    let small : c.carried.result / 2 ^ 52 + 1073 ≤ 4096 = omega (arith, c.carried.ensures, high_bound c.args.value (subst T (sym c.well_formed.0.1) tt) c.requires) in
    ap (of_int binary64) (difference_kept (c.carried.result / 2 ^ 52 + 1073) small)
    ∙ ap (λ (n : ℕ). of_int binary64 (pos (n / 2 ^ 52 + 1073) -ℤ pos 2096)) c.carried.ensures
