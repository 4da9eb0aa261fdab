-- A sum over the channels of a ball's gaps, or of its farthest distances, is the same from either zero on as with no start: each is a square, and no square is -0. Assumes nothing.
use mathlib.Core.Path.{◌≡◌}
use Prim.Native.Nat.{ℕ}
use mathlib.Core.Bool.{Bool}
use mathlib.Core.List.{List}
use lib.IntN.{pos}
use lib.Ieee.{Float, fin}
use Rattle.floats.specs.Numbers.{◌-ᶠ◌}
use Rattle.floats.proofs.MinusZero.{Plain, plain_square, plain_max, plain_from_either_zero}
use Rattle.candidate.specs.declared.Candidate.{Candidate}
use Rattle.candidate.specs.Boxes.{Span, at, span_at, over_channels, gap2}
use Rattle.candidate.specs.Cuts.{far2}
use Rattle.candidate.specs.Inner.Started.{over_channels_from}

gap_plain : (s : Span) (c : Float) → Plain (gap2 s c)
unfolding gap2
gap_plain s c = plain_square _

far_plain : (s : Span) (c : Float) → Plain (far2 s c)
unfolding far2
far_plain s c = plain_max (plain_square (s.lo -ᶠ c)) (plain_square (s.hi -ᶠ c))

from_either_zero : (z : Bool) (channels : ℕ) (g : ℕ → Float) → Plain (g 0) → over_channels_from (fin z 0 (pos 0)) channels g ≡ over_channels channels g
unfolding over_channels_from over_channels
from_either_zero z channels g p = rw (plain_from_either_zero z p)

-- ---- the two sums of a ball
module _ (z : Bool) (channels : ℕ) (x : Candidate) (centre : List Float) where
  pub gaps_from_either_zero : let g : ℕ → Float = λ k. gap2 (span_at x k) (at centre k) in over_channels_from (fin z 0 (pos 0)) channels g ≡ over_channels channels g
  gaps_from_either_zero = from_either_zero z channels (λ k. gap2 (span_at x k) (at centre k)) (gap_plain (span_at x 0) (at centre 0))

  pub farthest_from_either_zero : let g : ℕ → Float = λ k. far2 (span_at x k) (at centre k) in over_channels_from (fin z 0 (pos 0)) channels g ≡ over_channels channels g
  farthest_from_either_zero = from_either_zero z channels (λ k. far2 (span_at x k) (at centre k)) (far_plain (span_at x 0) (at centre 0))
