-- The box of a candidate, and what a ball leaves of it. Rules 3.10 and 3.12. Definitions only.
use Rattle.std.specs.Prelude.{ℕ, Bool, ◌||◌, cond, List, [], ◌∷◌, eqb, get_or, set, Float}
use Rattle.std.specs.Float.{nan}
use Rattle.floats.specs.Numbers.{◌+ᶠ◌, ◌-ᶠ◌, ◌*ᶠ◌, ◌<ᶠ◌, +0, +∞, -∞}
use Rattle.floats.specs.MaxMin.{larger}
use Rattle.candidate.specs.declared.Candidate.{Candidate}
use Rattle.candidate_balls.specs.declared.Ball.{Ball}
-- one side: a span, what a ball reaches of it, and whether anything is left of it
pub use Rattle.candidate_sides.specs.declared.Span.{Span}
pub use Rattle.candidate_sides.specs.Reach.{gone}
unfoldable pub use Rattle.candidate_sides.specs.Reach.{narrowed}

-- ---- the channels: any number of them but 1 counts as 2

-- the number of a corner or a centre along channel k
abbrev pub at : List Float → ℕ → Float
at xs k = get_or xs k nan

-- a ball by its numbers
abbrev pub ball_of : Float → Float → Float → Ball
ball_of c d r2 = record { centre = c ∷ d ∷ []; r2 = r2 }

-- the side of the box along channel k, and the box with another side there
unfoldable pub span_at : Candidate → ℕ → Span
span_at x k = record { lo = at x.lo k; hi = at x.hi k }

unfoldable pub with_span : ℕ → Span → Candidate → Candidate
with_span k s x = record { lo = set x.lo k s.lo; hi = set x.hi k s.hi }

-- a sum over the channels; it is one of squares, so that a sum from +0 on is the same
unfoldable pub over_channels : ℕ → (ℕ → Float) → Float
over_channels channels g = cond (eqb channels 1) (g 0) (g 0 +ᶠ g 1)

-- the box changed along each channel in its turn, by what stands there and the channel
unfoldable pub along_each : ℕ → (ℕ → Span → Span) → Candidate → Candidate
along_each channels step x =
    let y = with_span 0 (step 0 (span_at x 0)) x in
    cond (eqb channels 1) y (with_span 1 (step 1 (span_at y 1)) y)

-- ---- `restrict`

-- the square of the distance from c to a span
unfoldable pub gap2 : Span → Float → Float
gap2 s c = let gap = larger (larger (s.lo -ᶠ c) (c -ᶠ s.hi)) +0 in gap *ᶠ gap

-- the ball is empty, or does not reach over the sum of the gaps
unfoldable pub missed : Float → Float → Bool
missed r2 total = r2 <ᶠ +0 || r2 <ᶠ total

-- a span with nothing in it
unfoldable pub nothing : Span
nothing = record { lo = +∞; hi = -∞ }

-- the box narrowed to what meets a ball, and with nothing along the first channel where the ball misses it
unfoldable pub restrict : ℕ → Ball → Candidate → Candidate
restrict channels b x =
    let total = over_channels channels (λ k. gap2 (span_at x k) (at b.centre k)) in
    cond (missed b.r2 total) (with_span 0 nothing x)
    (along_each channels (λ k s. narrowed s (at b.centre k) (b.r2 -ᶠ (total -ᶠ gap2 s (at b.centre k)))) x)
