-- What holds of the predecessors of the functional search: each is 0, or at least m and at least m before its t, whatever the readings are. Assumes nothing.
use Prim.Native.Nat.{ℕ, zero, suc, ◌+◌, ◌-◌, ◌≤◌}
use mathlib.Core.Path.{◌≡◌, refl}
use mathlib.Core.Bool.{Bool, true, false, cond}
use mathlib.Core.List.{List, [], ◌∷◌, ◌++◌, map-append}
use native.Mathlib.Nat.{le_of_lt}
use native.Mathlib.Omega.{arith}
use borrow.Author.Tests.{leb-true}
use lib.Dec.{leb}
use lib.ListN.{length, get_or, length-map, get_or-map}
use lib.Ieee.{Float}
use Rattle.search_rules.specs.Predecessors.{Placed, start, later, Sound}
use Rattle.search_rules.proofs.All.{All, none, one, all_at, all_last, all_map}
use Rattle.search_rules.proofs.MinimumLaws.{scan_is}
use Rattle.search_rules.proofs.PredecessorLaws.{placed_next, Filled, filled_after}
use Rattle.candidate.specs.Dominated.{is_dominated}
use Rattle.search_rules.specs.Functional.{Task, Living, State, places, best_at, living_at, restricted, cut_back, lost_to, winners_to, born, joined_by, join_of, living_after, step_of, state_after, functional}

-- ---- the indices of the living candidates
pub places_length : (living : List Living) → length (places living) ≡ length living
unfolding places
places_length living = length-map living (λ c. c.tau)

pub places_at : (living : List Living) (j : ℕ) → get_or (places living) j 0 ≡ (living_at living j).tau
unfolding places
places_at living j = get_or-map (λ (c : Living). c.tau) living j _

-- ---- what holds of each candidate's index, and of `b`, still holds once `b` has joined
joined_all : {P : ℕ → Type 0} (channels : ℕ) (c : Living) (living : List Living) → All P (places living) → P c.tau → All P (places (joined_by channels c living))
unfolding joined_by places
joined_all {P} channels c living r p = go (is_dominated channels c.box)
  where
    go : (b : Bool) → All P (places (cond b living (living ++ (c ∷ []))))
    go true = r
    go false = rw (map-append (λ (c : Living). c.tau) living (c ∷ [])) (all_last r p)

winners_all : {P : ℕ → Type 0} (k : Task) (f : List Float) (b : ℕ) (living : List Living) (j : ℕ) → All P (places living) → j ≤ length living → All P (places (winners_to k f b living j))
unfolding winners_to joined_by places restricted cut_back
winners_all k f b living zero r h = none
winners_all {P} k f b living (suc j) r h =
    let p : P (living_at living j).tau = rw (← places_at living j) (all_at j r (rw places_length h)) in
    joined_all k.channels (cut_back k.channels (restricted k f b (living_at living j))) (winners_to k f b living j) (winners_all k f b living j r (le_of_lt h)) p

join_all : {P : ℕ → Type 0} (k : Task) (f : List Float) (b : ℕ) (living : List Living) → All P (places living) → P b → All P (places (join_of k f b living))
unfolding join_of born cut_back
join_all k f b living r p = joined_all k.channels (born k b (lost_to k f b living (length living))) _ (winners_all k f b living (length living) r (omega arith)) p

-- ---- each living candidate may be the predecessor of the next t: the one that joins at the end of step t is m old at t + 1
living_placed : (k : Task) (f : List Float) (t : ℕ) (living : List Living) → All (Placed k.m t) (places living) → All (Placed k.m (t + 1)) (places (living_after k f t living))
unfolding living_after
living_placed k f t living r = go (leb k.m (t + 1 - k.m)) refl (all_map (λ x. placed_next) r)
  where
    go : (b : Bool) → leb k.m (t + 1 - k.m) ≡ b → All (Placed k.m (t + 1)) (places living) → All (Placed k.m (t + 1)) (places (cond b (join_of k f (t + 1 - k.m) living) living))
    go true e r = let old = leb-true k.m (t + 1 - k.m) e in join_all k f (t + 1 - k.m) living r (later old (omega arith))
    go false e r = r

pub placed_after : (k : Task) (d : ℕ) → All (Placed k.m (k.m + d)) (places (state_after k d).living)
unfolding state_after step_of places
placed_after k zero = one (start refl) none
placed_after k (suc d) = let e : k.m + suc d ≡ k.m + d + 1 = omega arith in rw e (living_placed k _ (k.m + d) _ (placed_after k d))

best_placed : (k : Task) (t : ℕ) (s : State) → All (Placed k.m t) (places s.living) → Placed k.m t (best_at k t s).tau
unfolding best_at
best_placed k t s r = scan_is (Placed k.m t) (λ tau. true) _ (places s.living) (length s.living) (start refl) (all_map (λ x p e. p) r) (rw places_length (omega arith))

functional_filled : (k : Task) → k.m ≤ k.n → Filled k.m k.n (functional k).last
unfolding functional state_after step_of
functional_filled k h =
    filled_after k.m k.n (λ d. (state_after k d).last) (λ d. (best_at k (k.m + d) (state_after k d)).tau) refl (λ d. refl) (λ d. best_placed k (k.m + d) (state_after k d) (placed_after k d)) (k.n + 1 - k.m) (omega arith)

pub functional_sound : (k : Task) → k.m ≤ k.n → Sound k.m (functional k).last
functional_sound k h = (functional_filled k h).sound

pub functional_long : (k : Task) → k.m ≤ k.n → length (functional k).last ≡ k.n + 1
functional_long k h = (functional_filled k h).long
