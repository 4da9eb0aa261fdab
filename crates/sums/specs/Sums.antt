-- The mean of a channel, and the running sums of its readings less that mean and of their squares. Rule 3.5. Definitions only.
use Rattle.std.specs.Prelude.{◌≡◌, ℕ, zero, suc, ◌+◌, ◌*◌, Bool, true, false, List, length, get_or, nat_le, Float}
use Rattle.std.specs.Float.{nan}
use Rattle.floats.specs.Numbers.{◌+ᶠ◌, ◌-ᶠ◌, ◌*ᶠ◌, ◌/ᶠ◌, +0, of_whole}
use Rattle.areas.specs.Parts.{part, tab, Frame}

-- the sum of the first `i` readings of `xs`, from the index 0 up
unfoldable pub sum_to : List Float → ℕ → Float
sum_to xs zero = +0
sum_to xs (suc i) = sum_to xs i +ᶠ get_or xs i nan

-- the sum of all readings of `xs` over their number
unfoldable pub mean_of : List Float → Float
mean_of xs = sum_to xs (length xs) /ᶠ of_whole (length xs)

-- the reading `i` of `xs` less `mean`
unfoldable pub centred : List Float → Float → ℕ → Float
centred xs mean i = get_or xs i nan -ᶠ mean

-- the sum of the first `i` readings of `xs`, each less `mean`, from the index 0 up
unfoldable pub centred_to : List Float → Float → ℕ → Float
centred_to xs mean zero = +0
centred_to xs mean (suc i) = centred_to xs mean i +ᶠ centred xs mean i

-- the sum of the squares of the first `i` readings of `xs`, each less `mean`
unfoldable pub squares_to : List Float → Float → ℕ → Float
squares_to xs mean zero = +0
squares_to xs mean (suc i) = squares_to xs mean i +ᶠ centred xs mean i *ᶠ centred xs mean i

-- an area of `size` floats has room at `place` for two parts of `n` + 1 floats
unfoldable pub two_runs : ℕ → ℕ → ℕ → Bool
two_runs size n place = nat_le (place + 2 * (n + 1)) size

-- `area` holds the sums of the first 0 to `n` readings of `xs` less `mean` at `place`, and those of the squares behind them
pub record Held (xs : List Float) (mean : Float) (n : ℕ) (area : List Float) (place : ℕ) : Type 0 where
  pub sums : part area place (n + 1) ≡ tab (centred_to xs mean) (n + 1)
  pub squares : part area (place + (n + 1)) (n + 1) ≡ tab (squares_to xs mean) (n + 1)

-- `after` holds them, and is otherwise `before`
pub record Summed (xs : List Float) (mean : Float) (n : ℕ) (before after : List Float) (place : ℕ) : Type 0 where
  pub held : Held xs mean n after place
  pub frame : Frame before after place (2 * (n + 1))

-- what `cumulative_sums` leaves: `after` holds the sums of all readings where `before` has room for them, and is `before` where it has none
pub record Ran (xs : List Float) (mean : Float) (before after : List Float) (place : ℕ) : Type 0 where
  pub written : two_runs (length before) (length xs) place ≡ true → Summed xs mean (length xs) before after place
  pub unchanged : two_runs (length before) (length xs) place ≡ false → after ≡ before
