-- What `partition_pruned` leaves in the lent areas. Definitions only.
use Rattle.std.specs.Prelude.{ℕ, ◌+◌, ◌-◌, ◌≡◌, true, false, List, ◌++◌, length, replicate, Float}
use Rattle.floats.specs.Numbers.{+0}
use Rattle.costs.specs.declared.CostFunction.{CostFunction}
use Rattle.search_rules.specs.Room.{search_fits}
use Rattle.search_rules.specs.Inequality.{predecessors, price}

-- `indices'` has the predecessors at its front and is zero behind them, and `floats'` is zero; both are as they were, `indices` and `floats`, where the search does not fit
pub record Pruned (cost : CostFunction) (penalty : Float) (run : List Float) (n k m : ℕ) (floats floats' : List Float) (indices indices' : List ℕ) : Type 0 where
  pub found : search_fits (length run) n k m (length floats) (length indices) ≡ true → indices' ≡ predecessors (price cost run n k) penalty m n ++ replicate (length indices - (n + 1)) 0
  pub cleared : search_fits (length run) n k m (length floats) (length indices) ≡ true → floats' ≡ replicate (length floats) +0
  pub indices_kept : search_fits (length run) n k m (length floats) (length indices) ≡ false → indices' ≡ indices
  pub floats_kept : search_fits (length run) n k m (length floats) (length indices) ≡ false → floats' ≡ floats
