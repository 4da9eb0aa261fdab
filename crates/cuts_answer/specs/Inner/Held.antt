-- For the private functions: what the search that is asked for answers. Definitions only.
use Rattle.std.specs.Prelude.{ℕ, ◌≤◌, ◌≡◌, List, Result, Ok, Err, length, take, Float}
use Rattle.refusals.specs.Said.{Said, refusing, answered}
use Rattle.refusals.specs.declared.Refusal.{Refusal}
use Rattle.cuts_input.specs.declared.Request.{Request}
use Rattle.cuts_input.specs.Form as Form

-- ---- the request by its parts
abbrev pub asked : Request → List Float → List ℕ → Form.Request
asked r run lengths = record { settings = record { cost = r.cost; penalty = r.penalty; m = r.min_segment_len }; channels = record { run = run; lengths = lengths } }

-- ---- the answer of the search, with the cuts that it left
abbrev pub said_by : Result ℕ Refusal → List ℕ → Said
said_by (Ok count) cuts = answered (take count cuts)
said_by (Err r) cuts = refusing r

abbrev pub HasCuts : Result ℕ Refusal → List ℕ → Type 0
HasCuts (Ok count) cuts = count ≤ length cuts
HasCuts (Err r) cuts = Unit {0}

-- the answer `r` with the `cuts` says `expected`
pub record Says (r : Result ℕ Refusal) (cuts : List ℕ) (expected : Said) : Type 0 where
  pub has_cuts : HasCuts r cuts
  pub says : said_by r cuts ≡ expected
