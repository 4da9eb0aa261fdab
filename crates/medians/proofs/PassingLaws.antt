-- Laws of the values that pass a test, and of the front of a list. Assumes nothing.
use Prim.Native.Nat.{ℕ, zero, suc, ◌+◌, ◌≤◌, ◌<◌, zero-le, suc-le-suc}
use mathlib.Core.Path.{◌≡◌, refl, ap, ◌∙◌}
use mathlib.Core.Bool.{Bool, true, false, ◌&&◌}
use mathlib.Core.List.{List, [], ◌∷◌, ◌++◌, append-nil}
use native.Mathlib.Nat.{not-suc-le-zero, le_of_suc-le-suc}
use native.Mathlib.Numerals.{add-one}
use native.Mathlib.Omega.{arith}
use lib.ListN.{length, get_or, set, take, length-take}
use lib.Seq.{take-suc, take-suc-set}
use lib.Ieee.{Float, nan}
use Rattle.medians.specs.Inner.Ranks.{count, Each}
use Rattle.medians.specs.Inner.Rounds.{passing}
use Rattle.medians.proofs.CountLaws.{one}

module _ (p : Float → Bool) where
  kept_in : (x : Float) (xs : List Float) → p x ≡ true → passing p (x ∷ xs) ≡ x ∷ passing p xs
  unfolding passing
  kept_in x xs e = ap (λ (b : Bool). elim b [ true ↦ x ∷ passing p xs | false ↦ passing p xs ]) e

  kept_out : (x : Float) (xs : List Float) → p x ≡ false → passing p (x ∷ xs) ≡ passing p xs
  unfolding passing
  kept_out x xs e = ap (λ (b : Bool). elim b [ true ↦ x ∷ passing p xs | false ↦ passing p xs ]) e

  -- of the values that pass `p`, `q` counts those that pass both
  pub kept_count : (q : Float → Bool) (xs : List Float) → count q (passing p xs) ≡ count (λ (y : Float). p y && q y) xs
  unfolding count passing
  kept_count q [] = refl
  kept_count q (x ∷ xs) = side (p x) (kept_count q xs)
    where
      side : (b : Bool) → count q (passing p xs) ≡ count (λ (y : Float). p y && q y) xs
          → count q (elim b [ true ↦ x ∷ passing p xs | false ↦ passing p xs ]) ≡ one (b && q x) + count (λ (y : Float). p y && q y) xs
      side true h = ap (λ (n : ℕ). one (q x) + n) h
      side false h = h ∙ omega arith

  pub kept_length : (xs : List Float) → length (passing p xs) ≡ count p xs
  unfolding count passing
  kept_length [] = refl
  kept_length (x ∷ xs) = side (p x) (kept_length xs)
    where
      side : (b : Bool) → length (passing p xs) ≡ count p xs → length {A = Float} (elim b [ true ↦ x ∷ passing p xs | false ↦ passing p xs ]) ≡ one b + count p xs
      side true h = omega (arith, h)
      side false h = omega (arith, h)

  -- each of the values that pass `p` passes every test `q` that follows from `p` in `xs`
  pub kept_each : (q : Float → Bool) (xs : List Float) → ((i : ℕ) → i < length xs → p (get_or xs i nan) ≡ true → q (get_or xs i nan) ≡ true) → Each q (passing p xs)
  unfolding passing
  kept_each q [] h = record { each = λ i l. absurd (not-suc-le-zero l) }
  kept_each q (x ∷ xs) h = side (p x) refl (kept_each q xs (λ i l. h (suc i) (suc-le-suc l)))
    where
      side : (b : Bool) → p x ≡ b → Each q (passing p xs) → Each q (elim b [ true ↦ x ∷ passing p xs | false ↦ passing p xs ])
      side false e k = k
      side true e k = record { each = λ i l. first i l }
        where
          first : (i : ℕ) → i < length (x ∷ passing p xs) → q (get_or (x ∷ passing p xs) i nan) ≡ true
          first zero l = h 0 (suc-le-suc zero-le) e
          first (suc i) l = k.each i (le_of_suc-le-suc l)

  kept_append : (xs ys : List Float) → passing p (xs ++ ys) ≡ passing p xs ++ passing p ys
  unfolding passing
  kept_append [] ys = refl
  kept_append (x ∷ xs) ys = side (p x) (kept_append xs ys)
    where
      side : (b : Bool) → passing p (xs ++ ys) ≡ passing p xs ++ passing p ys
          → elim b [ true ↦ x ∷ passing p (xs ++ ys) | false ↦ passing p (xs ++ ys) ] ≡ elim b [ true ↦ x ∷ passing p xs | false ↦ passing p xs ] ++ passing p ys
      side true h = ap (λ (l : List Float). x ∷ l) h
      side false h = h

  kept_one : (x : Float) → p x ≡ true → passing p (x ∷ []) ≡ x ∷ []
  unfolding passing
  kept_one x e = kept_in x [] e

  kept_none : (x : Float) → p x ≡ false → passing p (x ∷ []) ≡ []
  unfolding passing
  kept_none x e = kept_out x [] e

  -- a loop over the values: one that passes, one that does not, and the end
  pub gathered_in : (xs : List Float) (i : ℕ) → i < length xs → p (get_or xs i nan) ≡ true → passing p (take (i + 1) xs) ≡ passing p (take i xs) ++ (get_or xs i nan ∷ [])
  gathered_in xs i h e = rw add-one (ap (passing p) (take-suc xs i nan h) ∙ kept_append (take i xs) (get_or xs i nan ∷ []) ∙ ap (λ (l : List Float). passing p (take i xs) ++ l) (kept_one (get_or xs i nan) e))

  pub gathered_out : (xs : List Float) (i : ℕ) → i < length xs → p (get_or xs i nan) ≡ false → passing p (take (i + 1) xs) ≡ passing p (take i xs)
  gathered_out xs i h e = rw add-one (ap (passing p) (take-suc xs i nan h) ∙ kept_append (take i xs) (get_or xs i nan ∷ []) ∙ ap (λ (l : List Float). passing p (take i xs) ++ l) (kept_none (get_or xs i nan) e) ∙ append-nil (passing p (take i xs)))

-- ---- the front of a list
pub front_length : (n : ℕ) (xs : List Float) → n ≤ length xs → length (take n xs) ≡ n
front_length n xs h = simp length-take (omega arith)

-- one more value of a front that is written
pub front_more : {A : Type 0} (xs : List A) (i : ℕ) (v : A) (ys : List A) → i < length xs → take i xs ≡ ys → take (i + 1) (set xs i v) ≡ ys ++ (v ∷ [])
front_more xs i v ys h e = rw add-one (take-suc-set xs i v h ∙ ap (λ (l : List _). l ++ (v ∷ [])) e)
