-- What promise 2 says of the cuts of n readings: they rise strictly, and every piece has at least the minimum length. Definitions only.
use Rattle.std.specs.Prelude.{ℕ, ◌+◌, ◌≤◌, ◌<◌, List, [], ◌∷◌, ◌++◌, length, get_or}

-- `cuts` rise strictly, and lie above 0 and below `n`
pub record Rising (n : ℕ) (cuts : List ℕ) : Type 0 where
  pub rise : (i : ℕ) → i + 1 < length cuts → get_or cuts i 0 < get_or cuts (i + 1) 0
  pub above : (i : ℕ) → i < length cuts → 0 < get_or cuts i 0
  pub below : (i : ℕ) → i < length cuts → get_or cuts i 0 < n

-- where the pieces begin and end, in one list: 0, `cuts`, `n`; the piece i, from 0, reaches from the number at the index i up to the next one
unfoldable pub ends : ℕ → List ℕ → List ℕ
ends n cuts = 0 ∷ (cuts ++ (n ∷ []))

-- every piece of `n` readings, one more than there are `cuts`, the first and the last included, has at least `m` readings
pub record Pieces (m n : ℕ) (cuts : List ℕ) : Type 0 where
  pub long : (i : ℕ) → i ≤ length cuts → get_or (ends n cuts) i 0 + m ≤ get_or (ends n cuts) (i + 1) 0
