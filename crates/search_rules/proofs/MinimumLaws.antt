-- Laws of the minimum and of those that stay: one candidate more, and what holds of the candidates holds of what is chosen from them. Assumes nothing.
use Prim.Native.Nat.{ℕ, zero, suc, ◌+◌, ◌≤◌}
use mathlib.Core.Path.{◌≡◌, refl}
use mathlib.Core.Bool.{Bool, true, false, cond}
use mathlib.Core.List.{List, [], ◌∷◌, ◌++◌}
use native.Mathlib.Nat.{le_of_lt}
use native.Mathlib.Numerals.{add-one}
use lib.ListN.{length, get_or}
use lib.Ieee.{Float}
use Rattle.floats.specs.Numbers.{◌<ᶠ◌}
use Rattle.search_rules.specs.Minimum.{none_yet, better_of, scan_to, kept_to}
use Rattle.search_rules.specs.declared.Best.{Best}
use Rattle.search_rules.proofs.All.{All, none, all_at, all_last}

-- ---- one candidate more
pub scan_takes : (takes_part : ℕ → Bool) (total : ℕ → Float) (cs : List ℕ) (j : ℕ) → takes_part (get_or cs j 0) ≡ true
    → scan_to takes_part total cs (j + 1) ≡ better_of (scan_to takes_part total cs j) (total (get_or cs j 0)) (get_or cs j 0)
unfolding scan_to
scan_takes takes_part total cs j e = rw (add-one, e)

-- ---- what holds of 0 and of each candidate that takes part holds of the best
better_is : (P : ℕ → Type 0) (best : Best) (total : Float) (tau : ℕ) → P best.tau → P tau → P (better_of best total tau).tau
unfolding better_of
better_is P best total tau p q = go (total <ᶠ best.cost)
  where
    go : (b : Bool) → P (cond b (record { cost = total; tau = tau }) best).tau
    go true = q
    go false = p

pub scan_is : (P : ℕ → Type 0) (takes_part : ℕ → Bool) (total : ℕ → Float) (cs : List ℕ) (j : ℕ) → P 0 → All (λ x. takes_part x ≡ true → P x) cs → j ≤ length cs
    → P (scan_to takes_part total cs j).tau
unfolding scan_to none_yet
scan_is P takes_part total cs zero z r h = z
scan_is P takes_part total cs (suc j) z r h = go (takes_part (get_or cs j 0)) refl (scan_is P takes_part total cs j z r (le_of_lt h))
  where
    go : (b : Bool) → takes_part (get_or cs j 0) ≡ b → P (scan_to takes_part total cs j).tau
        → P (cond b (better_of (scan_to takes_part total cs j) (total (get_or cs j 0)) (get_or cs j 0)) (scan_to takes_part total cs j)).tau
    go true e p = better_is P (scan_to takes_part total cs j) (total (get_or cs j 0)) (get_or cs j 0) p (all_at j r h e)
    go false e p = p

-- ---- what holds of each candidate holds of those that stay
pub kept_all : {P : ℕ → Type 0} (stays : ℕ → Bool) (cs : List ℕ) (j : ℕ) → All P cs → j ≤ length cs → All P (kept_to stays cs j)
unfolding kept_to
kept_all stays cs zero r h = none
kept_all {P} stays cs (suc j) r h = go (stays (get_or cs j 0)) (kept_all stays cs j r (le_of_lt h))
  where
    go : (b : Bool) → All P (kept_to stays cs j) → All P (cond b (kept_to stays cs j ++ (get_or cs j 0 ∷ [])) (kept_to stays cs j))
    go true p = all_last p (all_at j r h)
    go false p = p
