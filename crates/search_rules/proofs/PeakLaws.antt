-- The most living candidates that there have been: `peak` is the greatest of their numbers, so slots that are too few at some step are too few for the search; n slots are never too few. Assumes nothing.
use Prim.Native.Nat.{ℕ, zero, suc, ◌+◌, ◌-◌, ◌≤◌, ◌<◌, max}
use mathlib.Core.Path.{◌≡◌, refl}
use mathlib.Core.Bool.{Bool, true, false, cond}
use mathlib.Core.List.{List, [], ◌∷◌, ◌++◌}
use native.Mathlib.Nat.{le_refl, le_trans, le-max_left, le-max_right, max-le}
use native.Mathlib.Numerals.{add-one}
use native.Mathlib.Omega.{arith}
use borrow.Author.Tests.{le-leb, lt-leb}
use lib.Dec.{leb}
use lib.ListN.{length, set, length-append}
use lib.Ieee.{Float}
use Rattle.candidate.specs.Dominated.{is_dominated}
use Rattle.search_rules.specs.Limits.{least_minimum}
use Rattle.search_rules.specs.Functional.{Task, Living, best_at, living_at, lost_to, restricted, cut_back, winners_to, born, joined_by, join_of, living_after, step_of, state_after, functional}

-- ---- one step more
peak_next : (k : Task) (d : ℕ) → (state_after k (suc d)).peak ≡ max (state_after k d).peak (length (state_after k (suc d)).living)
unfolding state_after step_of
peak_next k d = refl

-- as a loop has it: `slots` that were enough stay enough where the candidates of this step are at most as many
pub peak_within : (k : Task) (d slots : ℕ) → (state_after k d).peak ≤ slots → length (state_after k (d + 1)).living ≤ slots → (state_after k (d + 1)).peak ≤ slots
peak_within k d slots h l = rw (add-one, peak_next k d) (max-le h (rw (← add-one) l))

-- ---- the greatest of the numbers of living candidates: it never falls, is never below them, and is at most any bound that they all keep
pub peak_rises : (k : Task) (d e : ℕ) → (state_after k d).peak ≤ (state_after k (d + e)).peak
peak_rises k d zero = let q : d + 0 ≡ d = omega arith in rw q (le_refl _)
peak_rises k d (suc e) = let q : d + suc e ≡ suc (d + e) = omega arith in rw (q, peak_next k (d + e)) (le_trans (peak_rises k d e) (le-max_left _ _))

pub peak_covers : (k : Task) (d : ℕ) → length (state_after k d).living ≤ (state_after k d).peak
unfolding state_after
peak_covers k zero = le_refl _
peak_covers k (suc d) = rw (peak_next k d) (le-max_right _ _)

pub peak_least : (k : Task) (d slots : ℕ) → ((e : ℕ) → e ≤ d → length (state_after k e).living ≤ slots) → (state_after k d).peak ≤ slots
unfolding state_after
peak_least k zero slots f = f 0 (le_refl _)
peak_least k (suc d) slots f = rw (peak_next k d) (max-le (peak_least k d slots (λ e h. f e (omega arith))) (f (suc d) (le_refl _)))

-- ---- the slots of the whole search
pub slots_too_few : (k : Task) (d slots : ℕ) → d ≤ k.n + 1 - k.m → slots < length (state_after k d).living → leb (functional k).peak slots ≡ false
unfolding functional
slots_too_few k d slots h l =
    let q : d + (k.n + 1 - k.m - d) ≡ k.n + 1 - k.m = omega arith in
    let rises : (state_after k d).peak ≤ (state_after k (k.n + 1 - k.m)).peak = rw (← q) (peak_rises k d _) in
    lt-leb _ _ (le_trans l (le_trans (peak_covers k d) rises))

pub slots_enough : (k : Task) (slots : ℕ) → (state_after k (k.n + 1 - k.m)).peak ≤ slots → leb (functional k).peak slots ≡ true
unfolding functional
slots_enough k slots h = le-leb _ _ h

-- ---- n slots: a step adds one candidate at the most
one_more : (t : Bool) (before : List Living) (c : Living) (j : ℕ) → length before ≤ j → length (cond t before (before ++ (c ∷ []))) ≤ suc j
one_more true before c j h = omega (arith, h)
one_more false before c j h = rw (length-append before (c ∷ [])) (omega (arith, h))

winners_few : (k : Task) (f : List Float) (b : ℕ) (living : List Living) (j : ℕ) → length (winners_to k f b living j) ≤ j
unfolding winners_to
winners_few k f b living zero = le_refl 0
winners_few k f b living (suc j) =
    let c = cut_back k.channels (restricted k f b (living_at living j)) in
    one_more (is_dominated k.channels c.box) (winners_to k f b living j) c j (winners_few k f b living j)

join_few : (k : Task) (f : List Float) (b : ℕ) (living : List Living) → length (join_of k f b living) ≤ suc (length living)
unfolding join_of joined_by
join_few k f b living =
    let count = length living in
    let c = born k b (lost_to k f b living count) in
    one_more (is_dominated k.channels c.box) (winners_to k f b living count) c count (winners_few k f b living count)

after_few : (k : Task) (f : List Float) (t : ℕ) (living : List Living) → length (living_after k f t living) ≤ suc (length living)
unfolding living_after
after_few k f t living = go (leb k.m (t + 1 - k.m))
  where
    go : (b : Bool) → length (cond b (join_of k f (t + 1 - k.m) living) living) ≤ suc (length living)
    go true = join_few k f (t + 1 - k.m) living
    go false = omega arith

living_few : (k : Task) (d : ℕ) → length (state_after k d).living ≤ suc d
unfolding state_after step_of
living_few k zero = le_refl 1
living_few k (suc d) =
    let s = state_after k d in
    let f = set s.f (k.m + d) (best_at k (k.m + d) s).cost in
    le_trans (after_few k f (k.m + d) s.living) (omega (arith, living_few k d))

pub n_slots : (k : Task) (slots : ℕ) → least_minimum ≤ k.m → k.m ≤ k.n → k.n ≤ slots → leb (functional k).peak slots ≡ true
n_slots k slots least short enough = slots_enough k slots (peak_least k (k.n + 1 - k.m) slots (λ e h. le_trans (living_few k e) (omega (arith, least, short, enough, h))))
