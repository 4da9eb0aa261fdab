-- What is said of a list of predecessors. Definitions only.
use Rattle.std.specs.Prelude.{ℕ, ◌+◌, ◌≤◌, ◌≡◌, List, get_or}

-- `tau` may be the predecessor of `t`: it is 0, or at least `m` and at least `m` before `t`
pub data Placed (m t : ℕ) (tau : ℕ) : Type 0 where
  start : tau ≡ 0 → Placed m t tau
  later : m ≤ tau → tau + m ≤ t → Placed m t tau

-- `last` has for every t a number that may be its predecessor
pub record Sound (m : ℕ) (last : List ℕ) : Type 0 where
  pub placed : (t : ℕ) → Placed m t (get_or last t 0)
