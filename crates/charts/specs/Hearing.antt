-- What a run length says. Rule 5.6. Definitions only.
use Rattle.std.specs.Prelude.{ℕ, [], ◌∷◌, Result, Ok, Err, Option, Some, None}
use Rattle.refusals.specs.declared.Refusal.{Refusal}
use Rattle.refusals.specs.Said.{Said, answered, refusing}

-- the reading, nothing where the level is not heard, or the refusal's number and values
abbrev pub heard_as : Result (Option ℕ) Refusal → Said
heard_as (Ok (Some n)) = answered (n ∷ [])
heard_as (Ok None) = answered []
heard_as (Err r) = refusing r
