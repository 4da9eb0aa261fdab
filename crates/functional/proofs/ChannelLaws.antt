-- Laws of what the search works out of each channel: the box of the ranges, and the sums of one channel and of two. Assumes nothing.
use Prim.Native.Nat.{ℕ, ◌+◌, ◌*◌, ◌≤◌}
use mathlib.Core.Path.{◌≡◌, refl, sym}
use mathlib.Core.List.{List, [], ◌∷◌}
use native.Mathlib.Omega.{arith}
use native.Mathlib.Nat.{zero-mul}
use borrow.Author.Tests.{le-leb, eq-eqb, ne_eqb}
use lib.ListN.{length}
use lib.Ieee.{Float}
use Rattle.floats.specs.Numbers.{+0}
use Rattle.readings.specs.Channels.{channel_of}
use Rattle.ranges.specs.declared.Range.{Range}
use Rattle.sums.specs.Sums.{mean_of, two_runs, Summed, Ran}
use Rattle.sums.specs.EachChannel.{Sums}
use Rattle.sums.proofs.ChannelLaws.{sums_none, sums_more}
use Rattle.search_rules.specs.Functional.{Task, besides, range_along, range_box}

-- ---- the range
pub range_of_task : (run : List Float) (n channels m : ℕ) (penalty : Float)
    → range_box (record { run = run; n = n; channels = channels; m = 0; penalty = +0 }) ≡ range_box (record { run = run; n = n; channels = channels; m = m; penalty = penalty })
unfolding range_box range_along besides
range_of_task run n channels m penalty = refl

pub range_one : (k : Task) (x : Range) → k.channels ≡ 1 → x ≡ range_along k 0 → record { lo = x.lo ∷ +0 ∷ []; hi = x.hi ∷ +0 ∷ [] } ≡ range_box k
unfolding range_box besides
range_one k x e f = rw (eq-eqb k.channels 1 e, f) refl

pub range_two : (k : Task) (x y : Range) → (k.channels ≡ 1 → ⊥) → x ≡ range_along k 0 → y ≡ range_along k 1 → record { lo = x.lo ∷ y.lo ∷ []; hi = x.hi ∷ y.hi ∷ [] } ≡ range_box k
unfolding range_box besides
range_two k x y e f g = rw (ne_eqb k.channels 1 e, f, g) refl

-- ---- the sums
-- a channel with room for its sums
pub summed : {xs signal : List Float} {centre : Float} {n : ℕ} {x y : List Float} {place : ℕ} → signal ≡ xs → length xs ≡ n → centre ≡ mean_of signal → place + 2 * (n + 1) ≤ length x
    → Ran signal centre x y place → Summed xs (mean_of xs) n x y place
unfolding two_runs
summed {xs} {signal} {centre} {n} {x} {y} {place} e l c h r =
    let s : Summed signal centre (length signal) x y place = r.written (le-leb (place + 2 * (length signal + 1)) (length x) (rw (e, l) h)) in
    rw (c, e, l) at s

pub sums_one : {run : List Float} {n channels : ℕ} {x y : List Float} → channels ≡ 1 → Summed (channel_of run n 0) (mean_of (channel_of run n 0)) n x y 0 → Sums run n channels y
sums_one {run} {n} {channels} {x} {y} e s = rw e (sums_more s refl refl (sym (zero-mul _)) (sums_none run n x))

pub sums_two : {run : List Float} {n channels : ℕ} {x y z : List Float} {place : ℕ} → channels ≡ 2 → place ≡ 2 * (n + 1) → Summed (channel_of run n 0) (mean_of (channel_of run n 0)) n x y 0
    → Summed (channel_of run n 1) (mean_of (channel_of run n 1)) n y z place → Sums run n channels z
sums_two {run} {n} {channels} {x} {y} {z} {place} e f s t =
    rw e (sums_more t refl refl (omega arith) (sums_more s refl refl (sym (zero-mul _)) (sums_none run n x)))
