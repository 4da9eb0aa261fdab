-- Laws of the room: what fits, as inequalities, and that no product of it wraps. Assumes nothing.
use Prim.Native.Nat.{ℕ, ◌+◌, ◌*◌, ◌≤◌}
use mathlib.Core.Path.{◌≡◌}
use mathlib.Core.Bool.{true}
use native.Mathlib.Omega.{arith}
use native.Mathlib.Nat.{mul-le-mul, add-mul, mul_assoc, mul_comm}
use borrow.Author.Tests.{leb-true}
use lib.Dec.{leb}
use Rattle.logic.proofs.Laws.{both}
use Rattle.search_rules.specs.Room.{series_fits, room_fits, search_fits}

-- ---- no product wraps
pub floats_small : (n k : ℕ) → k ≤ 8 → n ≤ 4096 → (2 * k + 2) * (n + 1) ≤ 73746
floats_small n k h l = mul-le-mul {n₁ = 2 * k + 2} {m₁ = n + 1} {n₂ = 18} {m₂ = 4097} (omega arith) (omega arith)

-- the work floats are the sums and two parts of `w` floats more
pub split_floats : (k w : ℕ) → (2 * k + 2) * w ≡ k * (2 * w) + w + w
split_floats k w = simp (add-mul, mul_assoc, mul_comm) (omega (arith, add-mul (2 * k) 2 w, mul_assoc 2 k w))

-- ---- what fits
pub record Series (run n k m : ℕ) : Type 0 where
  pub few : k ≤ 8
  pub short : n ≤ 4096
  pub readings : k * n ≤ run
  pub some : 1 ≤ m
  pub ripe : m ≤ n

pub series : (run n k m : ℕ) → series_fits run n k m ≡ true → Series run n k m
unfolding series_fits
series run n k m e =
    let e₁ = (both (leb k 8) _ e).1 in
    let e₂ = (both (leb n 4096) _ e₁).1 in
    let e₃ = (both (leb (k * n) run) _ e₂).1 in
    record {
      few = leb-true k 8 (both (leb k 8) _ e).0;
      short = leb-true n 4096 (both (leb n 4096) _ e₁).0;
      readings = leb-true (k * n) run (both (leb (k * n) run) _ e₂).0;
      some = leb-true 1 m (both (leb 1 m) _ e₃).0;
      ripe = leb-true m n (both (leb 1 m) _ e₃).1;
    }

pub record Roomy (n k lf li : ℕ) : Type 0 where
  pub floats : (2 * k + 2) * (n + 1) ≤ lf
  pub indices : 3 * (n + 1) ≤ li

pub roomy : (n k lf li : ℕ) → room_fits n k lf li ≡ true → Roomy n k lf li
unfolding room_fits
roomy n k lf li e =
    record { floats = leb-true _ lf (both (leb ((2 * k + 2) * (n + 1)) lf) _ e).0; indices = leb-true _ li (both (leb ((2 * k + 2) * (n + 1)) lf) _ e).1 }

pub fits_series : (run n k m lf li : ℕ) → search_fits run n k m lf li ≡ true → Series run n k m
unfolding search_fits
fits_series run n k m lf li e = series run n k m (both (series_fits run n k m) _ e).0

pub fits_room : (run n k m lf li : ℕ) → search_fits run n k m lf li ≡ true → Roomy n k lf li
unfolding search_fits
fits_room run n k m lf li e = roomy n k lf li (both (series_fits run n k m) _ e).1
