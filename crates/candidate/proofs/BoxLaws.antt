-- A law of the box: its sides do not touch. Assumes nothing.
use mathlib.Core.Path.{◌≡◌, refl}
use native.Mathlib.Omega.{arith}
use lib.Seq.{get_or-set_other}
use lib.Ieee.{nan}
use Rattle.candidate.specs.declared.Candidate.{Candidate}
use Rattle.candidate.specs.Boxes.{Span, span_at, with_span}

-- a change along the first channel leaves what stands along the second
pub span_beside : (s : Span) (x : Candidate) → span_at (with_span 0 s x) 1 ≡ span_at x 1
unfolding span_at with_span
span_beside s x = rw (get_or-set_other x.lo 0 1 s.lo nan (omega arith), get_or-set_other x.hi 0 1 s.hi nan (omega arith)) refl
