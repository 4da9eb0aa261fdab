-- The turns of the run length: a reading whose sum is above h is the answer, and another leaves what is still to come. Assumes nothing.
use mathlib.Core.Path.{◌≡◌, sym, ap, ◌∙◌}
use Prim.Native.Nat.{ℕ, suc, ◌+◌, ◌-◌, ◌≤◌, ◌<◌}
use mathlib.Core.Bool.{true, false}
use mathlib.Core.List.{List, [], ◌∷◌}
use native.Mathlib.Omega.{arith}
use native.Mathlib.Numerals.{add-one}
use lib.Ieee.{Float}
use Rattle.floats.specs.Numbers.{◌<ᶠ◌}
use Rattle.cusum.specs.declared.Cusum.{Cusum}
use Rattle.cusum.specs.declared.CusumResult.{CusumResult}
use Rattle.charts.specs.declared.Sum.{Sum}
use Rattle.cusum.specs.Chart.{step_of}
use Rattle.cusum.specs.RunLength.{sum_of, heard_from}

module _ (c : Cusum) (v : Float) (asked : Sum) where
  -- the record after one reading more
  abbrev pub fed_once : CusumResult → ℕ → CusumResult
  fed_once r m = step_of c r (record { 0 = m }) v

  pub heard_now : (k m : ℕ) (r : CusumResult) → (c.h <ᶠ sum_of asked (fed_once r m)) ≡ true → heard_from c v asked (suc k) m r ≡ suc m ∷ []
  unfolding heard_from
  heard_now k m r e = rw (heard_from, e)

  pub heard_later : (k m : ℕ) (r : CusumResult) → (c.h <ᶠ sum_of asked (fed_once r m)) ≡ false → heard_from c v asked (suc k) m r ≡ heard_from c v asked k (suc m) (fed_once r m)
  unfolding heard_from
  heard_later k m r e = rw (heard_from, e)

  -- the same with the readings that are left of 4,096
  left : (m : ℕ) → m < 4096 → 4096 - m ≡ suc (4096 - (m + 1))
  left m h = omega arith

  pub turn_over : (m : ℕ) (r q : CusumResult) (l : List ℕ) → m < 4096 → q ≡ fed_once r m → (c.h <ᶠ sum_of asked q) ≡ true → heard_from c v asked (4096 - m) m r ≡ l → (m + 1) ∷ [] ≡ l
  turn_over m r q l h e t i =
      ap (λ (k : ℕ). k ∷ []) (add-one m) ∙ sym (heard_now (4096 - (m + 1)) m r (ap (λ (s : CusumResult). c.h <ᶠ sum_of asked s) (sym e) ∙ t)) ∙ ap (λ (k : ℕ). heard_from c v asked k m r) (sym (left m h)) ∙ i

  pub turn_quiet : (m : ℕ) (r q : CusumResult) (l : List ℕ) → m < 4096 → q ≡ fed_once r m → (c.h <ᶠ sum_of asked q) ≡ false → heard_from c v asked (4096 - m) m r ≡ l → heard_from c v asked (4096 - (m + 1)) (m + 1) q ≡ l
  turn_quiet m r q l h e t i =
      ap (heard_from c v asked (4096 - (m + 1)) (m + 1)) e
      ∙ ap (λ (n : ℕ). heard_from c v asked (4096 - (m + 1)) n (fed_once r m)) (add-one m)
      ∙ sym (heard_later (4096 - (m + 1)) m r (ap (λ (s : CusumResult). c.h <ᶠ sum_of asked s) (sym e) ∙ t))
      ∙ ap (λ (k : ℕ). heard_from c v asked k m r) (sym (left m h))
      ∙ i

  -- no reading is left
  pub turns_over : (m : ℕ) (r : CusumResult) (l : List ℕ) → 4096 ≤ m → heard_from c v asked (4096 - m) m r ≡ l → [] ≡ l
  unfolding heard_from
  turns_over m r l h i = let z : 4096 - m ≡ 0 = omega arith in ap (λ (k : ℕ). heard_from c v asked k m r) (sym z) ∙ i
