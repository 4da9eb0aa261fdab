-- The summary of a piece of one channel, and when it is refused. Rules 2.4, 6.1 and 6.2. Definitions only.
use Rattle.std.specs.Prelude.{ℕ, ◌-◌, Bool, not, ◌&&◌, List, [], ◌∷◌, length, nat_le, nat_lt, to_bits, Float, Option, Some, None, Result, Ok, Err}
use Rattle.std.specs.Float.{binary64}
use Rattle.floats.specs.Numbers.{◌+ᶠ◌, ◌/ᶠ◌}
use Rattle.refusals.specs.Limits.{max_readings}
use Rattle.refusals.specs.Tried.{tried}
use Rattle.refusals.specs.Said.{Said, refusing, answered}
use Rattle.refusals.specs.declared.Refusal.{Refusal}
use Rattle.sums.specs.Sums.{mean_of}
use Rattle.costs.specs.Costs.{segment_of, l2_cost}
use Rattle.piece.specs.declared.PieceSummary.{PieceSummary}
use Rattle.piece.specs.Spread.{spread_of}

-- the summary of the readings of `xs` from `a` up to `b`, without `b`: length; mean, the centred mean plus the channel's mean; spread, by the length and the L2 cost
unfoldable pub summary_of : List Float → ℕ → ℕ → PieceSummary
summary_of xs a b =
    let s = segment_of xs a b in
    record { length = b - a; mean = s.sum /ᶠ s.length +ᶠ mean_of xs; spread = spread_of (b - a) (l2_cost s) }

-- 6 `xs` has more readings than the limit; 12 unless `a` < `b` ≤ the length of `xs`
unfoldable pub piece_tests : List Float → ℕ → ℕ → List (Bool × Refusal)
piece_tests xs a b = (nat_lt max_readings (length xs), Refusal.TooLong) ∷ (not (nat_lt a b && nat_le b (length xs)), Refusal.Piece) ∷ []

unfoldable pub summarised_as : List Float → ℕ → ℕ → Result PieceSummary Refusal
summarised_as xs a b = tried Err (piece_tests xs a b) (Ok (summary_of xs a b))

-- what is said of a spread: its bits, with one NaN, or nothing
abbrev pub spread_said : Option Float → List ℕ
spread_said None = []
spread_said (Some x) = to_bits binary64 x ∷ []

-- what `summary` says: the length, the bits of the mean, with one NaN, and the spread; or the refusal's number
abbrev pub summarised : Result PieceSummary Refusal → Said
summarised (Ok s) = answered (s.length ∷ to_bits binary64 s.mean ∷ spread_said s.spread)
summarised (Err r) = refusing r
