-- The shortest of some lengths is above none of them, and an answer stands for its count, or 0. Assumes nothing.
use Prim.Native.Nat.{ℕ, ◌≤◌}
use mathlib.Core.Path.{◌≡◌, refl}
use mathlib.Core.Bool.{Bool, true, false, cond}
use native.Mathlib.Omega.{arith}
use borrow.Author.Tests.{ltb-true, ltb-false}
use lib.Dec.{ltb}
use Rattle.std.specs.Prelude.{Result, Ok, Err}
use Rattle.std.specs.Result.{result_unwrap_or}
use Rattle.refusals.specs.declared.Refusal.{Refusal}
use Rattle.refusals.specs.Tried.{count_of}
use Rattle.c_charts.specs.Columns.{shorter, shortest}

pub shorter_least : (a b : ℕ) → (shorter a b ≤ a) × (shorter a b ≤ b)
unfolding shorter
shorter_least a b = go (ltb a b) refl
  where
    go : (t : Bool) → ltb a b ≡ t → (cond t a b ≤ a) × (cond t a b ≤ b)
    go true e = let h = ltb-true a b e in (omega arith, omega (arith, h))
    go false e = let h = ltb-false a b e in (omega (arith, h), omega arith)

pub shortest_least : (a b c d : ℕ) → (shortest a b c d ≤ a) × (shortest a b c d ≤ b) × (shortest a b c d ≤ c) × (shortest a b c d ≤ d)
unfolding shortest
shortest_least a b c d =
    let h = shorter_least (shorter a b) (shorter c d) in
    let p = shorter_least a b in
    let q = shorter_least c d in
    (omega (arith, h.0, p.0), omega (arith, h.0, p.1), omega (arith, h.1, q.0), omega (arith, h.1, q.1))

pub count_or : (a : Result ℕ Refusal) → result_unwrap_or a 0 ≡ count_of a
count_or (Ok n) = refl
count_or (Err r) = refl
