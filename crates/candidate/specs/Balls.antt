-- How the balls in which a candidate loses stand in an area. Definitions only.
use Rattle.std.specs.Prelude.{ℕ, ◌+◌, ◌*◌, false, cond, ◌≡◌, List, [], eqb, get_or, Float}
use Rattle.std.specs.Float.{nan}
use Rattle.candidate_balls.specs.Losing.{losing_balls}
use Rattle.floats.specs.Numbers.{◌-ᶠ◌, ◌<ᶠ◌, +0}
use Rattle.elementary.specs.Root.{sqrt}
use Rattle.areas.specs.Parts.{tab}
use Rattle.candidate_balls.specs.declared.Ball.{Ball}
use Rattle.candidate.specs.Boxes.{at, ball_of}
-- the room for them
unfoldable pub use Rattle.candidate_balls.specs.Losing.{has_room}

-- a ball of a list
abbrev pub ball_at : List Ball → ℕ → Ball
ball_at bs i = get_or bs i (record { centre = []; r2 = +0 })

-- ---- the balls in an area: three runs of 64, which begin at `place`, of the first numbers of the centres, the second numbers, and the squares of the radii

unfoldable pub held_at : List Float → ℕ → ℕ → Ball
held_at area place i = ball_of (get_or area (place + i) nan) (get_or area (place + losing_balls + i) nan) (get_or area (place + 2 * losing_balls + i) nan)

unfoldable pub held : List Float → ℕ → ℕ → List Ball
held area place count = tab (held_at area place) count

-- a ball of the area as it is meant: on one channel the second number is +0
unfoldable pub meant : ℕ → Ball → Ball
meant channels b = ball_of (at b.centre 0) (cond (eqb channels 1) +0 (at b.centre 1)) b.r2

-- the list of balls that an area stands for
unfoldable pub balls_at : ℕ → List Float → ℕ → ℕ → List Ball
balls_at channels area place count = tab (λ i. meant channels (held_at area place i)) count

-- a ball that stands in the area as on one channel: with its root, and not empty
pub record Rooted (b : Ball) : Type 0 where
  pub root : at b.centre 1 ≡ sqrt (b.r2 -ᶠ +0)
  pub above : (b.r2 <ᶠ +0) ≡ false
