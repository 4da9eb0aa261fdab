-- An index among those that a call wrote. Definitions only.
use Rattle.std.specs.Prelude.{ℕ, ◌<◌, ◌≡◌, List, get_or}

-- one of the first `k` entries of `l` is `i`
abbrev pub Among : List ℕ → ℕ → ℕ → Type 0
Among l k i = (j : ℕ) × (j < k) × (get_or l j 0 ≡ i)
