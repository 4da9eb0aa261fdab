-- The place that the step takes: never past the index and 1, whatever the state, and the definition's own where no more readings had a place than there were. Assumes nothing.
use mathlib.Core.Path.{◌≡◌, refl}
use Prim.Native.Nat.{ℕ, suc, ◌≤◌}
use native.Mathlib.Nat.{le_antisymm}
use native.Mathlib.Omega.{arith}
use mathlib.Core.Bool.{Bool, true, false, cond}
use borrow.Author.Tests.{ltb-true, ltb-false}
use lib.Dec.{ltb}
use lib.Ieee.{Float}
use Rattle.charts.specs.declared.Place.{Place}
use Rattle.ewma.specs.declared.Ewma.{Ewma}
use Rattle.ewma.specs.Settled.{at_most, place_from}
use Rattle.ewma.proofs.Editions.{place_next}

pub at_most_index : (p i : ℕ) → at_most p i ≤ i
at_most_index p i = go (ltb p i) refl
  where
    go : (b : Bool) → ltb p i ≡ b → cond b p i ≤ i
    go true e = omega (arith, ltb-true p i e)
    go false e = omega arith

pub place_from_within : (c : Ewma) (last : Place) (i : ℕ) (x : Float) → (place_from c last i x).0 ≤ suc i
place_from_within c last i x = place_next c.edition (record { 0 = at_most last.0 i }) (record { 0 = i }) x (at_most_index last.0 i)

pub at_most_is : (p i : ℕ) → p ≤ i → at_most p i ≡ p
at_most_is p i h = go (ltb p i) refl
  where
    go : (b : Bool) → ltb p i ≡ b → cond b p i ≡ p
    go true e = refl
    go false e = le_antisymm (ltb-false p i e) h
