-- A slab as a span of its own, for the private functions. Definitions only.
use Rattle.std.specs.Prelude.{Bool, cond, ◌&&◌, Float}
use Rattle.floats.specs.Numbers.{◌+ᶠ◌, ◌-ᶠ◌, ◌≤ᶠ◌}
use Rattle.candidate_sides.specs.declared.Span.{Span}

-- from c - w to c + w
abbrev pub about : Float → Float → Span
about c w = record { lo = c -ᶠ w; hi = c +ᶠ w }

-- v lies in a span
abbrev pub within : Span → Float → Bool
within s v = s.lo ≤ᶠ v && v ≤ᶠ s.hi

-- v, and another number in its place where it lies in a slab
abbrev pub moved_by : Span → Float → Float → Float
moved_by slab v to = cond (within slab v) to v

-- a span with each end that lies in a slab moved to the far side of that
abbrev pub cut_by : Span → Span → Span
cut_by slab s = record { lo = moved_by slab s.lo slab.hi; hi = moved_by slab s.hi slab.lo }
