-- What `backtrack` answers, and what it leaves in the lent area. Rule 3.17. Definitions only.
use Rattle.std.specs.Prelude.{ℕ, ◌≡◌, List, length}
use Rattle.backtrack.specs.Cuts.{cuts_of, written}

-- `r` is the number of the cuts of `n` readings by `indices`, and `after` is `before` with the cuts at its front
pub record Backtracked (indices : List ℕ) (n : ℕ) (before after : List ℕ) (r : ℕ) : Type 0 where
  pub count : r ≡ length (cuts_of indices n)
  pub cuts : after ≡ written (cuts_of indices n) before
