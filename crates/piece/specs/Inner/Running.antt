-- What the code carries from a piece's start to its end: `Running`, the two sums of a channel's first readings. Only private contracts and proofs need it. Definitions only.
use Rattle.std.specs.Prelude.{ℕ, List, Float}
use Rattle.floats.specs.Numbers.{◌+ᶠ◌, ◌-ᶠ◌, ◌*ᶠ◌}
use Rattle.sums.specs.Sums.{centred_to, squares_to}
use Rattle.piece.specs.declared.segment_of.Running.{Running}

-- the sums of the first `i` readings of `xs`, and of their squares, each less `mean`
unfoldable pub running_at : List Float → Float → ℕ → Running
running_at xs mean i = record { sum = centred_to xs mean i; sum_of_squares = squares_to xs mean i }

-- `sums` with the reading `x` taken in, less `mean`
unfoldable pub with_reading : Float → Running → Float → Running
with_reading mean sums x = record { sum = sums.sum +ᶠ (x -ᶠ mean); sum_of_squares = sums.sum_of_squares +ᶠ (x -ᶠ mean) *ᶠ (x -ᶠ mean) }
