-- Laws of the candidates: those that stay, with t behind them, rise and are below t + 1; and a table of a function of them is kept as they are. Assumes nothing.
use Prim.Native.Nat.{ℕ, zero, suc, ◌+◌, ◌≤◌, ◌<◌}
use mathlib.Core.Bool.{Bool, true, false, cond}
use mathlib.Core.Path.{◌≡◌, refl, sym, ap, ◌∙◌, subst}
use mathlib.Core.List.{List, [], ◌∷◌, ◌++◌}
use mathlib.Core.Logic.{⊎_elim}
use native.Mathlib.Omega.{arith}
use native.Mathlib.Nat.{eq-or-lt_of_le, not-suc-le-zero}
use lib.ListN.{length, get_or, length-append, get_or-append}
use lib.Seq.{get_or_at}
use Rattle.search_rules.specs.Minimum.{kept_to}
use Rattle.search_rules.proofs.All.{All, none, all_at, all_last}
use Rattle.inequality.specs.Inner.Held.{AllBelow, Rising}

-- ---- what holds of the first j holds of those of them that stay
kept_first : (P : ℕ → Type 0) (stays : ℕ → Bool) (cs : List ℕ) (j : ℕ) → ((i : ℕ) → i < j → P (get_or cs i 0)) → All P (kept_to stays cs j)
unfolding kept_to
kept_first P stays cs zero f = none
kept_first P stays cs (suc j) f = go (stays (get_or cs j 0)) (kept_first P stays cs j (λ i h. f i (omega arith)))
  where
    go : (b : Bool) → All P (kept_to stays cs j) → All P (cond b (kept_to stays cs j ++ (get_or cs j 0 ∷ [])) (kept_to stays cs j))
    go true p = all_last p (f j (omega arith))
    go false p = p

-- ---- one more behind those that rise
last_is : (l : List ℕ) (x : ℕ) → get_or (l ++ (x ∷ [])) (length l) 0 ≡ x
last_is l x = get_or_at l x [] 0 (length l) refl

longer : (l : List ℕ) (x j : ℕ) → j < length (l ++ (x ∷ [])) → j ≤ length l
longer l x j h = let e : length (l ++ (x ∷ [])) ≡ length l + 1 = length-append l (x ∷ []) in omega arith

rising_last : (l : List ℕ) (x : ℕ) → Rising l → All (λ y. y < x) l → Rising (l ++ (x ∷ []))
rising_last l x r a = record { rising = λ i j h g. go i j h (longer l x j g) }
  where
    go : (i j : ℕ) → i < j → j ≤ length l → get_or (l ++ (x ∷ [])) i 0 < get_or (l ++ (x ∷ [])) j 0
    go i j h g =
        ⊎_elim
        (λ e. let k : i < length l = omega arith in
        subst (λ (y : ℕ). get_or (l ++ (x ∷ [])) i 0 < y) (sym (ap (λ (n : ℕ). get_or (l ++ (x ∷ [])) n 0) e ∙ last_is l x)) (subst (λ (y : ℕ). y < x) (sym (get_or-append l (x ∷ []) 0 i k)) (all_at i a k)))
        (λ k. rw (get_or-append l (x ∷ []) 0 i (omega arith), get_or-append l (x ∷ []) 0 j k) (r.rising i j h k))
        (eq-or-lt_of_le g)

rising_kept : (stays : ℕ → Bool) (cs : List ℕ) (j : ℕ) → Rising cs → j ≤ length cs → Rising (kept_to stays cs j)
unfolding kept_to
rising_kept stays cs zero r h = record { rising = λ i j l g. absurd (not-suc-le-zero g) }
rising_kept stays cs (suc j) r h = go (stays (get_or cs j 0)) (rising_kept stays cs j r (omega arith))
  where
    go : (b : Bool) → Rising (kept_to stays cs j) → Rising (cond b (kept_to stays cs j ++ (get_or cs j 0 ∷ [])) (kept_to stays cs j))
    go true p = rising_last (kept_to stays cs j) (get_or cs j 0) p (kept_first (λ x. x < get_or cs j 0) stays cs j (λ i g. r.rising i j g h))
    go false p = p

-- ---- those that stay, and t
pub rising_next : (stays : ℕ → Bool) (cs : List ℕ) (t : ℕ) → Rising cs → AllBelow t cs → Rising (kept_to stays cs (length cs) ++ (t ∷ []))
rising_next stays cs t r b = rising_last _ t (rising_kept stays cs (length cs) r (omega arith)) (kept_first (λ x. x < t) stays cs (length cs) b.below)

pub kept_below : (stays : ℕ → Bool) (cs : List ℕ) (t : ℕ) → AllBelow t cs → (j : ℕ) → j < length (kept_to stays cs (length cs)) → get_or (kept_to stays cs (length cs)) j 0 < t
kept_below stays cs t b j h = all_at j (kept_first (λ x. x < t) stays cs (length cs) b.below) h

pub below_next : (stays : ℕ → Bool) (cs : List ℕ) (t : ℕ) → AllBelow t cs → AllBelow (t + 1) (kept_to stays cs (length cs) ++ (t ∷ []))
below_next stays cs t b =
    let all : All (λ x. x < t + 1) (kept_to stays cs (length cs) ++ (t ∷ [])) = all_last (kept_first (λ x. x < t + 1) stays cs (length cs) (λ i h. let l = b.below i h in omega arith)) (omega arith) in
    record { below = λ j h. all_at j all h }

-- what holds of each number of `l` by its index, and of `t` behind them, holds of the list of both
pub next_at : (P : ℕ → ℕ → Type 0) (l : List ℕ) (t : ℕ) → ((j : ℕ) → j < length l → P j (get_or l j 0)) → P (length l) t → (j : ℕ) → j < length (l ++ (t ∷ [])) → P j (get_or (l ++ (t ∷ [])) j 0)
next_at P l t f p j h =
    ⊎_elim
    (λ e. subst (λ (k : ℕ). P k (get_or (l ++ (t ∷ [])) k 0)) (sym e) (subst (P (length l)) (sym (last_is l t)) p))
    (λ k. subst (P j) (sym (get_or-append l (t ∷ []) 0 j k)) (f j k))
    (eq-or-lt_of_le (longer l t j h))
