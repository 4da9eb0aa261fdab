-- `elementary::parts::parts_of` meets its contract. Assumes nothing.
use Rattle.std.proofs.Common.{ℕ, ◌*◌, ◌^◌, sym, ap, ◌∙◌}
use Rattle.elementary.proofs.parts.Values.{count_low, count_high}
use Rattle.elementary.proofs.parts.Shifts.{high_scaled, high_root}
use Rattle.elementary.proofs.parts.parts_of.Goals as goal

pub returns-then-pattern-lt4503599627370496 : goal.returns-then-pattern-lt4503599627370496
returns-then-pattern-lt4503599627370496 c =
    let b = c.args.pattern in
    (c.widened.ensures.0, c.widened.ensures.1 ∙ ap (λ (z : ℕ). z * 2 ^ 1074) (sym (count_low b c.if-pattern-lt4503599627370496.true)))

pub returns-else-pattern-lt4503599627370496 : goal.returns-else-pattern-lt4503599627370496
returns-else-pattern-lt4503599627370496 c =
    let b = c.args.pattern in
    let l = c.if-pattern-lt4503599627370496.false in
    (high_scaled b l c.requires.1, sym (ap (λ (z : ℕ). z * 2 ^ 1074) (count_high b l) ∙ high_root b l))
