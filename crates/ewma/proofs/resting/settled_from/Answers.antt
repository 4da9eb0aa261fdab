-- `ewma::resting::settled_from` meets its contract. The loop's invariant: the places that are left give the same place. Assumes nothing.
use mathlib.Core.Path.{◌≡◌, refl}
use Prim.Native.Nat.{ℕ, zero, suc, ◌≤◌, ◌<◌, ◌+◌, ◌*◌, ◌-◌, ◌^◌}
use native.Mathlib.Nat.{not-suc-le-zero, mul-le-mul_left, pow-suc}
use native.Mathlib.Numerals.{sub-one}
use native.Mathlib.Omega.{arith}
use mathlib.Core.Bool.{true, false}
use lib.Pow.{pow_pos}
use lib.Ieee.{Float, of_bits, nan_bits}
use Rattle.floats.specs.Numbers.{◌*ᶠ◌, ◌≤ᶠ◌}
use Rattle.ewma.specs.Settled.{faint, settled_from}
use Rattle.ewma.proofs.resting.settled_from.Goals as goal

-- a turn that finds its place, one that does not, and none left
here : (left place v : ℕ) (faded : Float) → 0 < left → faded ≤ᶠ faint ≡ true → settled_from left place faded ≡ v → place ≡ v
unfolding settled_from
here zero place v faded h t e = absurd (not-suc-le-zero h)
here (suc left) place v faded h t e = rw (settled_from, t) at e

further : (left place v : ℕ) (faded : Float) → 0 < left → faded ≤ᶠ faint ≡ false → settled_from left place faded ≡ v → settled_from (left - 1) (2 * place) (faded *ᶠ faded) ≡ v
unfolding settled_from
further zero place v faded h t e = absurd (not-suc-le-zero h)
further (suc left) place v faded h t e = rw sub-one (rw (settled_from, t) at e)

nowhere : (left place v : ℕ) (faded : Float) → left ≤ 0 → settled_from left place faded ≡ v → place ≡ v
unfolding settled_from
nowhere zero place v faded h e = e
nowhere (suc left) place v faded h e = absurd (not-suc-le-zero h)

-- the places stay small
few : (left place : ℕ) → place * 2 ^ left ≡ 8192 → place ≤ 8192
few left place e = let p : place * 1 ≤ place * 2 ^ left = mul-le-mul_left place (pow_pos left) in omega (arith, p, e)

doubled : (left place : ℕ) → 0 < left → place * 2 ^ left ≡ 8192 → 2 * place * 2 ^ (left - 1) ≡ 8192
doubled zero place h e = absurd (not-suc-le-zero h)
doubled (suc left) place h e = rw sub-one (shared (2 ^ left) (rw (pow-suc 2 left) at e))
  where
    shared : (w : ℕ) → place * (w * 2) ≡ 8192 → 2 * place * w ≡ 8192
    shared w e = omega (arith, e)

pub loop-turn-init : goal.loop-turn-init
loop-turn-init c = (refl, refl)

pub float_from_bits-t-6 : goal.float_from_bits-t-6
unfolding nan_bits
float_from_bits-t-6 c = tt

pub returns-then-faded : goal.returns-then-faded
unfolding of_bits
returns-then-faded c = here _ _ _ _ (omega arith) c.if-faded.true c.loop-turn.invariant.0

pub overflow_mul-place : goal.overflow_mul-place
overflow_mul-place c = let p = few _ _ c.loop-turn.invariant.1 in omega (arith, p)

pub loop-turn-preserved : goal.loop-turn-preserved
unfolding of_bits
loop-turn-preserved c =
    let at = c.loop-turn in
    let more : 0 < 13 - at._turn = omega arith in
    let one : 13 - (at._turn + 1) ≡ 13 - at._turn - 1 = omega arith in
    (rw one (further _ _ _ _ more c.if-faded.false at.invariant.0), rw one (doubled (13 - at._turn) at.place more at.invariant.1))

pub returns : goal.returns
returns c = nowhere _ _ _ _ (omega arith) c.loop-turn.invariant.0
