-- The number that is told says what was answered: 0 a result and no refusal, any other the refusal of that number, 8 with the first gap's channel and index, 9 too few slots. Assumes nothing.
use mathlib.Core.Path.{◌≡◌, refl, sym, ap, ap₂, ◌∙◌}
use Prim.Native.Nat.{ℕ, ◌<◌}
use native.Mathlib.Omega.{arith}
use mathlib.Core.Bool.{Bool, true, false}
use mathlib.Core.List.{List, [], ◌∷◌}
use Rattle.std.specs.Prelude.{Result, Ok, Err}
use Rattle.refusals.specs.Stated.{stated}
use Rattle.refusals.specs.Tried.{tried}
use Rattle.refusals.specs.Said.{Said, answered, refusing, said}
use Rattle.refusals.proofs.Apart.{eight_is_gap, nine_is_pool}
use Rattle.refusals.proofs.ValueLaws.{number_bounds}
use Rattle.refusals.specs.declared.Refusal.{Refusal}
use Rattle.c_answers.specs.declared.Told.{Told}
use Rattle.c_answers.specs.declared.Counted.{Counted}
use Rattle.c_answers.specs.Told.{told_as, told_of, counted_as, counted_of}

-- ---- 0
-- no refusal is told as 0
pub refusal_told : (r : Refusal) (count k i : ℕ) → told_as 0 count k i ≡ told_of (refusing r) → ⊥
unfolding told_of
refusal_told r count k i e = omega (arith, ap (λ (t : Told). t.number) e, (number_bounds r).0)

pub refusal_counted : (r : Refusal) (count : ℕ) → counted_as 0 count ≡ counted_of (refusing r) → ⊥
unfolding told_of
refusal_counted r count e = omega (arith, ap (λ (t : Counted). t.number) e, (number_bounds r).0)

-- where 0 is told, no refusal that was tried held
pub result_counted : (ts : List (Bool × Refusal)) (s : Said) (count : ℕ) → counted_as 0 count ≡ counted_of (tried refusing ts s) → (tried refusing ts s ≡ s) × (counted_as 0 count ≡ counted_of s)
unfolding tried
result_counted [] s count e = (refl, e)
result_counted ((true, r) ∷ ts) s count e = absurd (refusal_counted r count e)
result_counted ((false, r) ∷ ts) s count e = result_counted ts s count e

-- and the answer is that count
pub count_told : (a : Result ℕ Refusal) (count : ℕ) → counted_as 0 count ≡ counted_of (said a) → a ≡ Ok count
unfolding told_of
count_told (Ok k) count e = ap Ok (sym (ap (λ (t : Counted). t.count) e))
count_told (Err r) count e = absurd (refusal_counted r count e)

-- ---- any other: the refusal with that number, of those that were tried
pub number_told : (ts : List (Bool × Refusal)) (values : List ℕ) (number count : ℕ) → 0 < number → counted_as number count ≡ counted_of (tried refusing ts (answered values))
    → (r : Refusal) × (tried refusing ts (answered values) ≡ refusing r) × ((stated r).number ≡ number)
unfolding tried told_of
number_told [] values number count h e = absurd (none number h (ap (λ (t : Counted). t.number) e))
  where
    none : (number : ℕ) → 0 < number → number ≡ 0 → ⊥
    none number h e = omega (arith, h, e)
number_told ((true, r) ∷ ts) values number count h e = (r, refl, sym (ap (λ (t : Counted). t.number) e))
number_told ((false, r) ∷ ts) values number count h e = number_told ts values number count h e

-- ---- 8
pub gap_told : (r : Refusal) (k i : ℕ) → told_as 8 0 k i ≡ told_of (refusing r) → r ≡ Refusal.NonFinite k i
unfolding told_of
gap_told r k i e =
    let number : (stated r).number ≡ 8 = sym (ap (λ (t : Told). t.number) e) in
    eight_is_gap r number ∙ sym (ap₂ (λ (a b : ℕ). Refusal.NonFinite a b) (ap (λ (t : Told). t.channel) e) (ap (λ (t : Told). t.index) e))

-- ---- 9
pub pool_told : (r : Refusal) → told_as 9 0 0 0 ≡ told_of (refusing r) → r ≡ Refusal.Pool
unfolding told_of
pool_told r e = nine_is_pool r (sym (ap (λ (t : Told). t.number) e))
