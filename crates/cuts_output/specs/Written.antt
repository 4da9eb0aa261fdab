-- What is written to a lent area, and the room that it asks. Definitions only.
use Rattle.std.specs.Prelude.{ℕ, ◌+◌, ◌*◌, ◌≤◌, ◌≡◌, cond, List, [], leb, length}
use Rattle.std.proofs.lemmas.List.Edits.{sets}
use Rattle.refusals.specs.Said.{Said, refused, answered}
use Rattle.cuts_output.specs.Lines.{text}

-- `out'` is `out` with `bytes` written at the index `at`, and `next` is the index behind them
pub record Written (bytes : List ℕ) (at : ℕ) (out out' : List ℕ) (next : ℕ) : Type 0 where
  pub place : next ≡ at + length bytes
  pub area : out' ≡ sets out at bytes

-- the same at the front of `out`, which has room for `bytes`
pub record Front (bytes : List ℕ) (out out' : List ℕ) (next : ℕ) : Type 0 where
  pub written : Written bytes 0 out out' next
  pub fits : next ≤ length out

-- the room that a text asks: its word, its line's end, and 21 bytes for each number, of which a refusal has three at the most
unfoldable pub room_of : Said → ℕ
room_of (answered cuts) = 26 + 21 * length cuts
room_of (refused s) = 71

-- what is written of `said` to an area of `size` bytes: its text, or nothing where there is less room
unfoldable pub shown : Said → ℕ → List ℕ
shown said size = cond (leb (room_of said) size) (text said) []
