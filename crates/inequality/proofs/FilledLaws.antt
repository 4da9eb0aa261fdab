-- Laws of values that a loop writes one after the other, and of the weights that such loops leave. Assumes nothing.
use Prim.Native.Nat.{ℕ, zero, suc, ◌+◌, ◌-◌, ◌≤◌, ◌<◌}
use mathlib.Core.Path.{◌≡◌, refl, sym, ap, ◌∙◌}
use mathlib.Core.List.{List, [], ◌∷◌, ◌++◌}
use native.Mathlib.Omega.{arith}
use native.Mathlib.Nat.{le_antisymm}
use native.Mathlib.Numerals.{add-one}
use lib.ListN.{length, get_or, set, take, drop, length-append, length-drop}
use lib.Seq.{drop-cons, drop-length, drop-drop, get_or-drop, get_or_at, set-append_seam}
use Rattle.std.proofs.lemmas.List.{get_or-append_right, take_at, drop_at, append_assoc, append-nil}
use borrow.Rule.Slice.PartMut.{put_mid}
use Rattle.areas.specs.Parts.{tab}
use Rattle.areas.proofs.PartLaws.{tab_length, tab_more, tab_same}
use Rattle.inequality.specs.Inner.Weights.{filled}

module _ {A : Type 0} (g : ℕ → A) (xs : List A) where
  pub filled_none : xs ≡ filled g xs 0
  unfolding filled tab
  filled_none = refl

  -- the value that is next is still the old one
  pub filled_here : {ys : List A} {j : ℕ} (d : A) → ys ≡ filled g xs j → j < length xs → get_or ys j d ≡ get_or xs j d
  unfolding filled
  filled_here {ys} {j} d e h = rw (e, drop-cons xs j d) (get_or_at (tab g j) (get_or xs j d) (drop (suc j) xs) d j (tab_length g j))

  pub filled_more : {ys : List A} {j : ℕ} (v : A) → ys ≡ filled g xs j → j < length xs → v ≡ g j → set ys j v ≡ filled g xs (j + 1)
  unfolding filled
  filled_more {ys} {j} v e h q =
      ap (λ (l : List A). set l j v) (e ∙ ap (λ (l : List A). tab g j ++ l) (drop-cons xs j v h))
      ∙ ap (λ (k : ℕ). set (tab g j ++ (get_or xs j v ∷ drop (suc j) xs)) k v) (sym (tab_length g j))
      ∙ set-append_seam (tab g j) (get_or xs j v) (drop (suc j) xs) v
      ∙ seam v q
    where
      seam : (v : A) → v ≡ g j → tab g j ++ (v ∷ drop (suc j) xs) ≡ tab g (j + 1) ++ drop (j + 1) xs
      seam v q = rw (q, tab_more g j, add-one) (sym (append_assoc (tab g j) (g j ∷ []) (drop (suc j) xs)))

  -- the loop's end
  pub filled_all : {ys : List A} {j : ℕ} → ys ≡ filled g xs j → length xs ≤ j → j ≤ length xs → ys ≡ tab g (length xs)
  unfolding filled
  filled_all {ys} {j} e h l =
      e ∙ ap (λ (k : ℕ). tab g k ++ drop k xs) (le_antisymm l h) ∙ ap (λ (r : List A). tab g (length xs) ++ r) (drop-length xs) ∙ append-nil (tab g (length xs))

  -- what is not written yet is the old
  pub filled_rest : {ys : List A} {j : ℕ} (i : ℕ) (d : A) → ys ≡ filled g xs j → j ≤ i → get_or ys i d ≡ get_or xs i d
  unfolding filled
  filled_rest {ys} {j} i d e h =
      let same : j + (i - j) ≡ i = omega arith in
      ap (λ (l : List A). get_or l i d) e
      ∙ get_or-append_right (tab g j) (drop j xs) j i d (tab_length g j) h
      ∙ get_or-drop j xs (i - j) d
      ∙ ap (λ (k : ℕ). get_or xs k d) same

  pub filled_length : {ys : List A} {j : ℕ} → ys ≡ filled g xs j → j ≤ length xs → length ys ≡ length xs
  unfolding filled
  filled_length {ys} {j} e h = ap length e ∙ length-append (tab g j) (drop j xs) ∙ (rw (tab_length g j, length-drop j xs) (omega arith))

tab_add : {A : Type 0} (g : ℕ → A) (m n : ℕ) → tab g (m + n) ≡ tab g m ++ tab (λ i. g (m + i)) n
unfolding tab
tab_add g m zero = let e : m + zero ≡ m = omega arith in ap (tab g) e ∙ sym (append-nil (tab g m))
tab_add g m (suc n) =
    let e : m + suc n ≡ suc (m + n) = omega arith in
    ap (tab g) e ∙ ap (λ l. l ++ (g (m + n) ∷ [])) (tab_add g m n) ∙ append_assoc (tab g m) (tab (λ i. g (m + i)) n) (g (m + n) ∷ [])

-- a block of `size` values more, written behind the first `first`
pub filled_block : {A : Type 0} (g : ℕ → A) (xs ys block : List A) (first size k : ℕ) (h : ℕ → A) → ys ≡ filled g xs first → first + size ≤ length xs → k ≡ size
    → block ≡ tab h size → ((i : ℕ) → i < size → h i ≡ g (first + i)) → put_mid first k ys block ≡ filled g xs (first + size)
unfolding filled
filled_block {A} g xs ys block first size k h e room ek eb same =
    let front : take first ys ≡ tab g first = ap (take first) e ∙ take_at (tab g first) (drop first xs) first (tab_length g first) in
    let back : drop size (drop first ys) ≡ drop (first + size) xs = ap (λ (l : List A). drop size (drop first l)) e ∙ ap (drop size) (drop_at (tab g first) (drop first xs) first (tab_length g first)) ∙ drop-drop size first xs in
    let middle : block ≡ tab (λ i. g (first + i)) size = eb ∙ tab_same h (λ i. g (first + i)) size same in
    rw (ek, front, back, middle) (sym (append_assoc (tab g first) (tab (λ i. g (first + i)) size) (drop (first + size) xs)) ∙ ap (λ (l : List A). l ++ drop (first + size) xs) (sym (tab_add g first size)))
