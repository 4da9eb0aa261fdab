-- What a ball cuts from a span. Rule 3.14. Definitions only.
use Rattle.std.specs.Prelude.{Bool, cond, ◌&&◌, Float}
use Rattle.floats.specs.Numbers.{◌+ᶠ◌, ◌-ᶠ◌, ◌*ᶠ◌, ◌<ᶠ◌, ◌≤ᶠ◌}
use Rattle.floats.specs.MaxMin.{larger}
use Rattle.floats.specs.Finite.{finite}
use Rattle.elementary.specs.Root.{sqrt}
use Rattle.candidate_sides.specs.declared.Span.{Span}

-- the square of the distance from c to the farther end of a span
unfoldable pub far2 : Span → Float → Float
far2 s c = let low = s.lo -ᶠ c in let high = s.hi -ᶠ c in larger (low *ᶠ low) (high *ᶠ high)

-- v lies from c - w to c + w
unfoldable pub inside : Float → Float → Float → Bool
inside c w v = c -ᶠ w ≤ᶠ v && v ≤ᶠ c +ᶠ w

-- v, and another number in its place where it lies inside
unfoldable pub moved : Float → Float → Float → Float → Float
moved c w v to = cond (inside c w v) to v

-- a low end inside goes to c + w, and a high end inside to c - w
unfoldable pub cut_ends : Span → Float → Float → Span
cut_ends s c w = record { lo = moved c w s.lo (c +ᶠ w); hi = moved c w s.hi (c -ᶠ w) }

-- a span cut where the ball reaches past the rest, which is what the other channels have of far2
unfoldable pub cut_span : Span → Float → Float → Float → Span
cut_span s c r2 rest = cond (r2 <ᶠ rest) s (cut_ends s c (sqrt (r2 -ᶠ rest)))

-- on one channel, by the root: the rest is 0 where far2 is finite, and otherwise no number, and nothing is cut
unfoldable pub cut_by_root : Span → Float → Float → Span
cut_by_root s c w = cond (finite (far2 s c)) (cut_ends s c w) s
