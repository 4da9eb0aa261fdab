-- What `partition_functional` answers, and what it leaves in the lent areas. Rule 3.16. Definitions only.
use Rattle.std.specs.Prelude.{ℕ, ◌+◌, ◌-◌, ◌/◌, ◌≡◌, Bool, true, false, ◌&&◌, cond, List, ◌++◌, leb, length, replicate, Float}
use Rattle.floats.specs.Numbers.{+0}
use Rattle.search_rules.specs.Limits.{functional_channels, slot_floats}
use Rattle.search_rules.specs.Room.{search_fits}
use Rattle.search_rules.specs.Functional.{Task, functional}

-- a search of one or two `channels` fits: a run of `run` readings has them, of `n` readings each, `m` is at least 1 and at most `n`, and areas of `floats` floats and `indices` indices are room enough
unfoldable pub fits_task : ℕ → ℕ → ℕ → ℕ → ℕ → ℕ → Bool
fits_task run n channels m floats indices = leb 1 channels && (leb channels functional_channels && search_fits run n channels m floats indices)

-- the same of the task `k`
abbrev pub task_fits : Task → ℕ → ℕ → Bool
task_fits k floats indices = fits_task (length k.run) k.n k.channels k.m floats indices

-- a pool of `pool` floats has whole slots for the most candidates of the task `k` that live at once
unfoldable pub slots_suffice : Task → ℕ → Bool
slots_suffice k pool = leb (functional k).peak (pool / slot_floats)

-- what an area of `indices` indices holds after the task `k` with a pool of `pool` floats: the predecessors and zeros behind them where there were slots enough, and zeros alone where there were not
unfoldable pub indices_after : Task → ℕ → ℕ → List ℕ
indices_after k pool indices = cond (slots_suffice k pool) ((functional k).last ++ replicate (indices - (k.n + 1)) 0) (replicate indices 0)

-- `r` says whether there were slots enough; `indices'` has the predecessors at its front, and everything else is zero; where the search does not fit, `r` is `false` and all areas are as they were
pub record Partitioned (k : Task) (floats floats' : List Float) (indices indices' : List ℕ) (pool pool' : List Float) (r : Bool) : Type 0 where
  pub answer : task_fits k (length floats) (length indices) ≡ true → r ≡ slots_suffice k (length pool)
  pub found : task_fits k (length floats) (length indices) ≡ true → indices' ≡ indices_after k (length pool) (length indices)
  pub floats_cleared : task_fits k (length floats) (length indices) ≡ true → floats' ≡ replicate (length floats) +0
  pub pool_cleared : task_fits k (length floats) (length indices) ≡ true → pool' ≡ replicate (length pool) +0
  pub unfit : task_fits k (length floats) (length indices) ≡ false → r ≡ false
  pub indices_kept : task_fits k (length floats) (length indices) ≡ false → indices' ≡ indices
  pub floats_kept : task_fits k (length floats) (length indices) ≡ false → floats' ≡ floats
  pub pool_kept : task_fits k (length floats) (length indices) ≡ false → pool' ≡ pool
