-- `elementary::power::powi` meets its contract. The loop's invariant: `pow_from` of what is left of `n` gives the whole power. The measure is what is left of `n`. Assumes nothing.
use Rattle.std.proofs.Common.{◌≡◌, ℕ, ◌/◌, ◌%◌, ◌<◌, sym, refl, ◌∙◌, arith}
use lib.Ieee.{Float, of_bits, of_int}
use Rattle.floats.specs.Numbers.{◌*ᶠ◌}
use Rattle.elementary.specs.Power.{times_if, pow_from, powi}
use Rattle.elementary.proofs.power.Powers.{one_turn, no_turn}
use Rattle.elementary.proofs.power.powi.Goals as goal

-- one turn, for the lowest bit `bit` of `n`
turn : (n : ℕ) (b r v : Float) (bit : ℕ) → 0 < n → n % 2 ≡ bit → pow_from n n b r ≡ v → pow_from (n / 2) (n / 2) (b *ᶠ b) (times_if bit r b) ≡ v
turn n b r v bit h e q = rw (← e) (sym (one_turn n b r h) ∙ q)

pub loop-rest-init : goal.loop-rest-init
unfolding powi of_bits of_int
loop-rest-init c = refl

pub loop-rest-preserved-then-bit-eq1 : goal.loop-rest-preserved-then-bit-eq1
loop-rest-preserved-then-bit-eq1 c =
    let at = c in
    turn at.loop-rest.rest at.loop-rest.base at.loop-rest.result _ 1 c.loop-rest-test.true c.if-bit-eq1.true at.loop-rest.invariant

pub loop-rest-preserved : goal.loop-rest-preserved
loop-rest-preserved c =
    let at = c in
    turn at.loop-rest.rest at.loop-rest.base at.loop-rest.result _ 0 c.loop-rest-test.true (omega arith) at.loop-rest.invariant

pub returns : goal.returns
returns c = sym (no_turn _ _ _ (omega arith)) ∙ c.loop-rest.invariant
