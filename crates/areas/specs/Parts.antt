-- A part of a flat area, the list of a function's values, and an area of which only a part changed. Definitions only.
use Rattle.std.specs.Prelude.{ℕ, zero, suc, ◌+◌, ◌≡◌, List, [], ◌∷◌, ◌++◌, length, take, drop}

-- the part `xs[base..base + size]`, clipped to `xs`
unfoldable pub part : {A : Type 0} → List A → ℕ → ℕ → List A
part xs base size = take size (drop base xs)

-- the list of `g 0`, `g 1`, .., `g (n - 1)`, for the `n` that is given
unfoldable pub tab : {A : Type 0} → (ℕ → A) → ℕ → List A
tab g zero = []
tab g (suc i) = tab g i ++ (g i ∷ [])

-- `after` is as long as `before`, and differs from it only at indices from `base` up to `base + size`
pub record Frame {A : Type 0} (before after : List A) (base size : ℕ) : Type 0 where
  pub front : take base after ≡ take base before
  pub back : drop (base + size) after ≡ drop (base + size) before
  pub long : length after ≡ length before
