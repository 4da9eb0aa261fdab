-- Whether anything is left of a box. Rule 3.15. Definitions only.
use Rattle.std.specs.Prelude.{ℕ, Bool, ◌||◌, cond, eqb}
use Rattle.candidate.specs.declared.Candidate.{Candidate}
use Rattle.candidate.specs.Boxes.{span_at, gone}

-- `is_dominated`: along one of the channels nothing is left
unfoldable pub is_dominated : ℕ → Candidate → Bool
is_dominated channels x = cond (eqb channels 1) (gone (span_at x 0)) (gone (span_at x 0) || gone (span_at x 1))
