-- Small laws of truth values and equality. Assumes nothing.
use Prim.Native.Nat.{ℕ}
use mathlib.Core.Path.{◌≡◌, refl, sym, ◌∙◌}
use mathlib.Core.Bool.{Bool, true, false, ◌&&◌, false≢true}
use native.Mathlib.Omega.{arith}

-- two outcomes that equal what a definition says are the same: a contract that is an equation leaves one
pub one_outcome : {A : Type 0} {r r' definition : A} → r ≡ definition → r' ≡ definition → r ≡ r'
one_outcome p q = p ∙ sym q

-- the two halves of a conjunction that holds
pub both : (a b : Bool) → (a && b) ≡ true → (a ≡ true) × (b ≡ true)
both true b e = (refl, e)
both false b e = absurd (false≢true e)

-- 0 is not 1: `clash cc` closes a case whose hypotheses contradict each other
pub clash : ◌≡◌ {A = ℕ} 0 1 → ⊥
clash e = omega (arith, e)
