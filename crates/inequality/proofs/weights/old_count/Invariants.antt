use mathlib.Core.Path.{◌≡◌}
use mathlib.Core.Bool.{false}
use Prim.Native.Nat.{ℕ, ◌≤◌, ◌<◌}
use lib.ListN.{length, get_or}
use Rattle.search_rules.specs.Inequality.{old_enough}
use Rattle.inequality.proofs.weights.old_count.Given as goal

abbrev pub invariant-loop-last : goal.invariant-loop-last
invariant-loop-last l = (j : ℕ) → l.last ≤ j → j < length l.candidates → old_enough l.m l.t (get_or l.candidates j 0) ≡ false
