-- `search::search::find` meets its contract: each way out by the tests that led to it. Assumes nothing.
use mathlib.Core.Path.{sym, ap, ◌∙◌}
use Prim.Native.Nat.{ℕ}
use native.Mathlib.Omega.{arith}
use lib.Ieee.{Float, of_bits}
use lib.ListN.{replicate}
use Rattle.floats.specs.Numbers.{◌≤ᶠ◌, +0}
use Rattle.search.proofs.FindingLaws.{short_found, free_found, functional_found, pruned_found, functional_few, left_none, left_again, left_found}
use Rattle.search.proofs.search.find.Goals as goal

pub returns-then-channels-m : goal.returns-then-channels-m
returns-then-channels-m c = let e = c.clear_all.ensures in left_found _ (short_found _ _ _ _ _ _ _ c.if-channels-m.true) (left_none _ e.0 e.1 e.2)

pub returns-then-value : goal.returns-then-value
unfolding of_bits
returns-then-value c =
    let e = c.clear_all-then-value.ensures in
    let v = c.penalty_value-value.ensures in
    left_found _ (free_found _ _ _ _ _ _ _ c.if-channels-m.false (ap (λ (x : Float). x ≤ᶠ +0) (sym v.0) ∙ c.if-value.true)) (left_none _ (e.0 ∙ ap (λ (k : ℕ). replicate k +0) v.1) e.1 e.2)

pub by_functional-requires : goal.by_functional-requires
by_functional-requires c =
    let v = c.penalty_value-value.ensures in
    let a = c.requires in
    let h = c.if-channels-m.false in
    (rw v.1 a, omega (arith, h), a.some (omega (arith, h, a.least)), functional_few _ _ (sym c.takes_functional.ensures ∙ c.if-takes_functional.true))

pub returns-then-takes_functional : goal.returns-then-takes_functional
unfolding of_bits
returns-then-takes_functional c =
    let v = c.penalty_value-value.ensures in
    left_found _ (functional_found _ _ _ _ _ _ _ _ c.if-channels-m.false v.0 c.if-value.false (sym c.takes_functional.ensures ∙ c.if-takes_functional.true)) (left_again _ _ _ _ _ _ v.1 c.by_functional.ensures)

pub returns : goal.returns
unfolding of_bits
returns c =
    let v = c.penalty_value-value.ensures in
    left_found _ (pruned_found _ _ _ _ _ _ _ _ c.if-channels-m.false v.0 c.if-value.false (sym c.takes_functional.ensures ∙ c.if-takes_functional.false)) (left_again _ _ _ _ _ _ v.1 c.by_inequality.ensures)
