-- A statement of each number of a list. Assumes nothing.
use Prim.Native.Nat.{ℕ, zero, suc, ◌<◌}
use mathlib.Core.List.{List, [], ◌∷◌, ◌++◌}
use native.Mathlib.Nat.{not-suc-le-zero, le_of_suc-le-suc}
use lib.ListN.{length, get_or}

pub data All (P : ℕ → Type 0) : List ℕ → Type 0 where
  none : All P []
  one : {x : ℕ} {xs : List ℕ} → P x → All P xs → All P (x ∷ xs)

pub all_at : {P : ℕ → Type 0} {xs : List ℕ} (j : ℕ) → All P xs → j < length xs → P (get_or xs j 0)
all_at j none h = absurd (not-suc-le-zero h)
all_at zero (one p r) h = p
all_at (suc j) (one p r) h = all_at j r (le_of_suc-le-suc h)

pub all_last : {P : ℕ → Type 0} {x : ℕ} {xs : List ℕ} → All P xs → P x → All P (xs ++ (x ∷ []))
all_last none q = one q none
all_last (one p r) q = one p (all_last r q)

pub all_map : {P Q : ℕ → Type 0} {xs : List ℕ} → ((x : ℕ) → P x → Q x) → All P xs → All Q xs
all_map f none = none
all_map f (one {x = x} p r) = one (f x p) (all_map f r)
