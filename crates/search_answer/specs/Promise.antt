-- What promise 2 says of the cuts of a search. Definitions only.
use Rattle.std.specs.Prelude.{ℕ, ◌/◌, ◌≤◌, ◌<◌, List, length}
use Rattle.backtrack.specs.Pieces.{Rising, Pieces}

-- the `cuts` of `n` readings rise strictly between 0 and `n`; if there is one, every piece has at least `m` readings; and there are at most n/2
pub record Cut (m n : ℕ) (cuts : List ℕ) : Type 0 where
  pub rising : Rising n cuts
  pub pieces : 0 < length cuts → Pieces m n cuts
  pub half : length cuts ≤ n / 2
