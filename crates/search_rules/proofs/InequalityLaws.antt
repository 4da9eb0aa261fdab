-- What holds of the predecessors of the inequality search: each is 0, or at least m and at least m before its t, whatever the costs are. Assumes nothing.
use Prim.Native.Nat.{ℕ, zero, suc, ◌+◌, ◌-◌, ◌≤◌, ◌<◌}
use mathlib.Core.Path.{◌≡◌, refl}
use mathlib.Core.Logic.{inl, inr}
use native.Mathlib.Omega.{arith}
use borrow.Author.Tests.{leb-true}
use lib.ListN.{length}
use lib.Ieee.{Float}
use Rattle.search_rules.specs.Predecessors.{Placed, start, Sound}
use Rattle.search_rules.proofs.All.{All, none, one, all_last, all_map}
use Rattle.search_rules.proofs.MinimumLaws.{scan_is, kept_all}
use Rattle.search_rules.proofs.PredecessorLaws.{Joined, old_placed, Filled, filled_after}
use Rattle.search_rules.specs.Inequality.{State, old_enough, best_at, step_of, state_after, predecessors}

-- every candidate is 0 or joined at m or later
joined_after : (cost : ℕ → ℕ → Float) (penalty : Float) (m n d : ℕ) → All (Joined m) (state_after cost penalty m n d).candidates
unfolding state_after step_of Joined
joined_after cost penalty m n zero = one (inl refl) none
joined_after cost penalty m n (suc d) = all_last (kept_all _ _ _ (joined_after cost penalty m n d) (omega arith)) (inr (omega arith))

best_placed : (cost : ℕ → ℕ → Float) (penalty : Float) (m t : ℕ) (s : State) → 0 < m → All (Joined m) s.candidates → Placed m t (best_at cost penalty m t s).tau
unfolding best_at old_enough
best_placed cost penalty m t s h r = scan_is (Placed m t) (old_enough m t) _ s.candidates (length s.candidates) (start refl) (all_map (λ x j e. old_placed m t x h j (leb-true m (t - x) e)) r) (omega arith)

predecessors_filled : (cost : ℕ → ℕ → Float) (penalty : Float) (m n : ℕ) → 0 < m → m ≤ n → Filled m n (predecessors cost penalty m n)
unfolding predecessors state_after step_of
predecessors_filled cost penalty m n h l =
    let state = state_after cost penalty m n in
    filled_after m n (λ d. (state d).last) (λ d. (best_at cost penalty m (m + d) (state d)).tau) refl (λ d. refl) (λ d. best_placed cost penalty m (m + d) (state d) h (joined_after cost penalty m n d)) (n + 1 - m) (omega arith)

pub predecessors_sound : (cost : ℕ → ℕ → Float) (penalty : Float) (m n : ℕ) → 0 < m → m ≤ n → Sound m (predecessors cost penalty m n)
predecessors_sound cost penalty m n h l = (predecessors_filled cost penalty m n h l).sound

pub predecessors_long : (cost : ℕ → ℕ → Float) (penalty : Float) (m n : ℕ) → 0 < m → m ≤ n → length (predecessors cost penalty m n) ≡ n + 1
predecessors_long cost penalty m n h l = (predecessors_filled cost penalty m n h l).long
