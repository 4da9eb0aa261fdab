-- The spread of a piece by its L2 cost. Rule 6.2. Definitions only.
use Rattle.std.specs.Prelude.{ℕ, ◌-◌, cond, nat_lt, Float, Option, Some, None}
use Rattle.floats.specs.Numbers.{◌/ᶠ◌, ◌<ᶠ◌, +0, of_whole}

-- `cost`, or +0 where it is below 0; a NaN is not below 0, and stays
unfoldable pub not_below_zero : Float → Float
not_below_zero cost = cond (cost <ᶠ +0) +0 cost

-- the spread of `n` readings whose L2 cost is `cost`: none of fewer than two readings; else the cost, or +0 where it is below 0, divided by the length less one
unfoldable pub spread_of : ℕ → Float → Option Float
spread_of n cost = cond (nat_lt n 2) None (Some (not_below_zero cost /ᶠ of_whole (n - 1)))
