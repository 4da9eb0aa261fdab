-- The running sums of all channels of a run, each about its own mean, one channel after the other in an area. Rule 3.5. Definitions only.
use Rattle.std.specs.Prelude.{◌≡◌, ℕ, ◌+◌, ◌*◌, ◌<◌, Bool, true, false, ◌&&◌, List, length, nat_le, Float}
use Rattle.refusals.specs.Limits.{max_channels, max_readings}
use Rattle.areas.specs.Parts.{Frame}
use Rattle.readings.specs.Channels.{channel_of}
use Rattle.sums.specs.Sums.{mean_of, Held}

-- `area` holds the sums of the `k` channels of `run`, of `n` readings each: those of the channel `c` stand at 2c(n + 1), and those of its squares at (2c + 1)(n + 1)
pub record Sums (run : List Float) (n k : ℕ) (area : List Float) : Type 0 where
  pub channel : (c : ℕ) → c < k → Held (channel_of run n c) (mean_of (channel_of run n c)) n area (c * (2 * (n + 1)))

-- a run of `run` readings has `k` channels of `n`, within the limits of 8 and 4,096, and an area of `size` floats has room for their sums
unfoldable pub sums_fit : ℕ → ℕ → ℕ → ℕ → Bool
sums_fit run n k size = nat_le k max_channels && (nat_le n max_readings && (nat_le (k * n) run && nat_le (k * (2 * (n + 1))) size))

-- what `channel_sums` leaves: `after` has the sums at its front, and is otherwise `before`, where they fit; where they do not, `after` is `before`
pub record RanEach (run : List Float) (n k : ℕ) (before after : List Float) : Type 0 where
  pub written : sums_fit (length run) n k (length before) ≡ true → Sums run n k after
  pub frame : sums_fit (length run) n k (length before) ≡ true → Frame before after 0 (k * (2 * (n + 1)))
  pub unchanged : sums_fit (length run) n k (length before) ≡ false → after ≡ before
