-- What a ball reaches of a span, and whether anything is left of one. Rule 3.12. Definitions only.
use Rattle.std.specs.Prelude.{Bool, Float}
use Rattle.floats.specs.Numbers.{◌+ᶠ◌, ◌-ᶠ◌, ◌<ᶠ◌, +0}
use Rattle.floats.specs.MaxMin.{larger, smaller}
use Rattle.elementary.specs.Root.{sqrt}
use Rattle.candidate_sides.specs.declared.Span.{Span}

-- the part of a span that a ball reaches, where room is what the other channels leave of r2
unfoldable pub narrowed : Span → Float → Float → Span
narrowed s c room = let w = sqrt (larger room +0) in record { lo = larger s.lo (c -ᶠ w); hi = smaller s.hi (c +ᶠ w) }

-- nothing is left of a span
abbrev pub gone : Span → Bool
gone s = s.hi <ᶠ s.lo
