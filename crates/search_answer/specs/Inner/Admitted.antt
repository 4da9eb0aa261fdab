-- What an admitted search may rely on. Definitions only.
use Rattle.std.specs.Prelude.{ℕ, ◌*◌, ◌≤◌, ◌<◌}
use Rattle.refusals.specs.Limits.{max_channels, max_readings}
use Rattle.search_rules.specs.Limits.{least_minimum}
use Rattle.search_rules.specs.Room.{cuts_for, floats_for, indices_for}

-- what holds once none of refusals 1 to 8 is given, for `k` channels of `n` readings, pieces of `m`, and a run and areas of the lengths `run`, `cuts`, `floats` and `indices`
pub record Admitted (run n k m cuts floats indices : ℕ) : Type 0 where
  pub least : least_minimum ≤ m
  pub few : k ≤ max_channels
  pub short : n ≤ max_readings
  pub some : 0 < n → 1 ≤ k
  pub readings : k * n ≤ run
  pub cuts_room : cuts_for n ≤ cuts
  pub floats_room : floats_for n k ≤ floats
  pub indices_room : indices_for n ≤ indices
