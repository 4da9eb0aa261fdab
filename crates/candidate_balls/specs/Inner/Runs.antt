-- The room that the private functions find for the three runs. Definitions only.
use Rattle.std.specs.Prelude.{ℕ, ◌+◌, ◌*◌, ◌≤◌}
use Rattle.candidate_balls.specs.Losing.{losing_balls}

-- the three runs from `place` on stand in an area of `size` floats
abbrev pub RunsFit : ℕ → ℕ → Type 0
RunsFit place size = place + 3 * losing_balls ≤ size
