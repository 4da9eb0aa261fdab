-- What the losing balls cut from the box. Rule 3.14. Definitions only.
use Rattle.std.specs.Prelude.{ℕ, zero, suc, cond, List, eqb, length, Float}
use Rattle.floats.specs.Numbers.{◌-ᶠ◌}
use Rattle.candidate.specs.declared.Candidate.{Candidate}
use Rattle.candidate_balls.specs.declared.Ball.{Ball}
use Rattle.candidate.specs.Boxes.{at, span_at, with_span, over_channels, along_each, gone}
use Rattle.candidate.specs.Balls.{ball_at, held, has_room}
-- what a ball cuts from one side
unfoldable pub use Rattle.candidate_sides.specs.Slabs.{far2, inside, moved, cut_ends, cut_span, cut_by_root}

-- ---- one ball

-- the box cut by one ball; the total is that of the box before
unfoldable pub cut_by : ℕ → Ball → Candidate → Candidate
cut_by channels b x =
    let total = over_channels channels (λ k. far2 (span_at x k) (at b.centre k)) in
    along_each channels (λ k s. cut_span s (at b.centre k) b.r2 (total -ᶠ far2 s (at b.centre k))) x

-- ---- `cut_losing`

-- the box cut by the first i balls, each in its turn, until it is empty along the first channel; `cut` is how one ball cuts
unfoldable pub cut_to : (Ball → Candidate → Candidate) → List Ball → Candidate → ℕ → Candidate
cut_to cut bs x zero = x
cut_to cut bs x (suc i) = let y = cut_to cut bs x i in cond (gone (span_at y 0)) y (cut (ball_at bs i) y)

-- by all balls
unfoldable pub cut_losing : ℕ → List Ball → Candidate → Candidate
cut_losing channels bs x = cut_to (cut_by channels) bs x (length bs)

-- ---- `cut_losing` by the balls of an area, on one channel with the roots that it holds

-- by a ball of the area on one channel, whose second number is its root
unfoldable pub cut_rooted : Ball → Candidate → Candidate
cut_rooted b x = with_span 0 (cut_by_root (span_at x 0) (at b.centre 0) (at b.centre 1)) x

-- by the `count` balls whose runs begin at `place`; the box as it is where there is no room for them
unfoldable pub cut_in : ℕ → List Float → ℕ → ℕ → Candidate → Candidate
cut_in channels area place count x =
    cond (has_room (length area) place count) (cut_to (cond (eqb channels 1) cut_rooted (cut_by 2)) (held area place count) x count) x
