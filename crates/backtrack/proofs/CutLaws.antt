-- Promise 2 of the cuts by sound predecessors: they rise strictly, every piece has at least the minimum length, and an area of n/2 indices is room enough for them. Assumes nothing.
use Prim.Native.Nat.{ℕ, zero, suc, ◌+◌, ◌-◌, ◌*◌, ◌/◌, ◌≤◌, ◌<◌}
use mathlib.Core.Path.{◌≡◌, refl, sym, ap, ◌∙◌}
use mathlib.Core.Bool.{Bool, true, false, cond}
use mathlib.Core.List.{List, [], ◌∷◌, ◌++◌}
use mathlib.Core.Logic.{inl, inr, ⊎_elim}
use native.Mathlib.Omega.{arith}
use native.Mathlib.Nat.{not-suc-le-zero, le_of_suc-le-suc, eq-or-lt_of_le}
use native.Mathlib.Numerals.{add-one}
use lib.Dec.{ltb}
use lib.ListN.{length, get_or, take, drop, length-append, get_or-append}
use lib.Seq.{get_or-append_seam, take_at, drop_at}
use Rattle.search_rules.specs.Predecessors.{Placed, start, later, Sound}
use Rattle.search_rules.proofs.PredecessorLaws.{Joined}
use Rattle.backtrack.specs.Cuts.{predecessor_of, back_from, cuts_of, written}
use Rattle.backtrack.specs.Backtracked.{Backtracked}
use Rattle.backtrack.specs.Pieces.{Rising, ends, Pieces}
use Rattle.backtrack.proofs.WalkLaws.{predecessor_le, predecessor_at_most, cuts_front, back_none}
use Rattle.backtrack.proofs.WrittenLaws.{written_room}

-- ---- a sound list's predecessors
placed_predecessor : {m : ℕ} {last : List ℕ} (t : ℕ) → Sound m last → Placed m t (predecessor_of last t)
unfolding predecessor_of
placed_predecessor {m} {last} t s = go (ltb (get_or last t 0) t)
  where
    go : (b : Bool) → Placed m t (cond b (get_or last t 0) 0)
    go true = s.placed t
    go false = start refl

placed_joined : {m t tau : ℕ} → Placed m t tau → Joined m tau
unfolding Joined
placed_joined (start e) = inl e
placed_joined (later p q) = inr p

placed_apart : {m t tau : ℕ} → Placed m t tau → m ≤ t → tau + m ≤ t
placed_apart (start e) h = omega arith
placed_apart (later p q) h = q

-- ---- from 0 to t in steps of at least `m`, with each end but 0 listed
data Steps (m : ℕ) : List ℕ → ℕ → Type 0 where
  none : Steps m [] 0
  more : {cs : List ℕ} {p : ℕ} (t : ℕ) → Steps m cs p → p + m ≤ t → Steps m (cs ++ (t ∷ [])) t

back_steps : {m : ℕ} (k : ℕ) {last : List ℕ} (t : ℕ) → Sound m last → t ≤ k → Joined m t → Steps m (back_from k last t) t
unfolding back_from Joined
back_steps zero zero s h j = none
back_steps zero (suc t) s h j = absurd (not-suc-le-zero h)
back_steps (suc k) zero s h j = none
back_steps (suc k) (suc t) s h (inl e) = absurd (omega arith)
back_steps (suc k) {last} (suc t) s h (inr l) =
    let p = placed_predecessor (suc t) s in
    let b = predecessor_at_most last t in
    more (suc t) (back_steps k (predecessor_of last (suc t)) s (omega arith) (placed_joined p)) (placed_apart p l)

cuts_steps : {m : ℕ} {last : List ℕ} (n : ℕ) → Sound m last → m ≤ n → Steps m (cuts_of last n ++ (n ∷ [])) n
unfolding cuts_of
cuts_steps {m} {last} n s h = let p = placed_predecessor n s in more n (back_steps n (predecessor_of last n) s (predecessor_le last n) (placed_joined p)) (placed_apart p h)

steps_end : {m : ℕ} {cs : List ℕ} {t : ℕ} → Steps m cs t → get_or (0 ∷ cs) (length cs) 0 ≡ t
steps_end none = refl
steps_end (more {cs} t s h) = rw (length-append cs (t ∷ []), add-one) (get_or-append_seam cs t [] 0)

steps_apart : {m : ℕ} {cs : List ℕ} {t : ℕ} → Steps m cs t → (i : ℕ) → i < length cs → get_or (0 ∷ cs) i 0 + m ≤ get_or (0 ∷ cs) (i + 1) 0
steps_apart none i l = absurd (not-suc-le-zero l)
steps_apart {m} (more {cs} {p} t s h) i l = ⊎_elim at_end (λ g. before_end g (steps_apart s i g)) (eq-or-lt_of_le (le_of_suc-le-suc (rw (length-append cs (t ∷ []), add-one) at l)))
  where
    at_end : i ≡ length cs → get_or (0 ∷ (cs ++ (t ∷ []))) i 0 + m ≤ get_or (0 ∷ (cs ++ (t ∷ []))) (i + 1) 0
    at_end e =
        rw (e, add-one, get_or-append (0 ∷ cs) (t ∷ []) 0 (length cs) (omega arith), steps_end s, get_or-append_seam cs t [] 0) h

    before_end : i < length cs → get_or (0 ∷ cs) i 0 + m ≤ get_or (0 ∷ cs) (i + 1) 0 → get_or (0 ∷ (cs ++ (t ∷ []))) i 0 + m ≤ get_or (0 ∷ (cs ++ (t ∷ []))) (i + 1) 0
    before_end g q = rw (get_or-append (0 ∷ cs) (t ∷ []) 0 i (omega arith), get_or-append (0 ∷ cs) (t ∷ []) 0 (i + 1) (omega arith)) q

-- ---- every piece has at least the minimum length
-- for `n` readings, at least `m`
pub sound_pieces : {m : ℕ} {last : List ℕ} (n : ℕ) → Sound m last → m ≤ n → Pieces m n (cuts_of last n)
unfolding ends
sound_pieces {last = last} n s h = record { long = λ i l. steps_apart (cuts_steps n s h) i (rw length-append (omega arith)) }

-- where there is a cut there are two pieces or more, so `n` is at least twice `m`
pub cut_needs : {m : ℕ} {last : List ℕ} (n : ℕ) → Sound m last → 0 < length (cuts_of last n) → m + m ≤ n
unfolding cuts_of
cut_needs {m} {last} n s h = go (placed_predecessor n s)
  where
    go : Placed m n (predecessor_of last n) → m + m ≤ n
    go (start e) = absurd (not-suc-le-zero (rw (e, back_none n last) at h))
    go (later p q) = omega arith

pub cut_pieces : {m : ℕ} {last : List ℕ} (n : ℕ) → Sound m last → 0 < length (cuts_of last n) → Pieces m n (cuts_of last n)
cut_pieces n s h = sound_pieces n s (omega (arith, cut_needs n s h))

-- ---- the cuts rise strictly
cut_at : (n : ℕ) (cs : List ℕ) (i : ℕ) → i < length cs → get_or (ends n cs) (i + 1) 0 ≡ get_or cs i 0
unfolding ends
cut_at n cs i h = rw add-one (get_or-append cs (n ∷ []) 0 i h)

end_at : (n : ℕ) (cs : List ℕ) → get_or (ends n cs) (length cs + 1) 0 ≡ n
unfolding ends
end_at n cs = rw add-one (get_or-append_seam cs n [] 0)

-- each piece begins at least `m` before `n`
pieces_before : {m n : ℕ} {cs : List ℕ} → Pieces m n cs → (d i : ℕ) → i + d ≡ length cs → get_or (ends n cs) i 0 + m ≤ n
pieces_before {m} {n} {cs} r zero i e = let f : length cs ≡ i = omega arith in omega (arith, r.long i (omega arith), rw f at (end_at n cs))
pieces_before {m} {n} {cs} r (suc d) i e = omega (arith, r.long i (omega arith), pieces_before r d (i + 1) (omega arith))

pub pieces_rise : {m n : ℕ} {cs : List ℕ} → Pieces m n cs → 0 < m → Rising n cs
pieces_rise {m} {n} {cs} r h =
    record {
      rise = λ i l. omega (arith, r.long (i + 1) (omega arith), cut_at n cs i (omega arith), cut_at n cs (i + 1) l);
      above = λ i l. omega (arith, r.long i (omega arith), cut_at n cs i l);
      below = λ i l. omega (arith, pieces_before r (length cs - (i + 1)) (i + 1) (omega arith), cut_at n cs i l);
    }

none_rise : (n : ℕ) → Rising n []
none_rise n = record { rise = λ i l. absurd (not-suc-le-zero l); above = λ i l. absurd (not-suc-le-zero l); below = λ i l. absurd (not-suc-le-zero l) }

-- what holds of no cuts, and of cuts whose pieces have `m` readings or more, holds of the cuts
cuts_either : {m : ℕ} {last : List ℕ} (P : List ℕ → Type 0) (n : ℕ) → Sound m last → P [] → (Pieces m n (cuts_of last n) → P (cuts_of last n)) → P (cuts_of last n)
cuts_either {m} {last} P n s z f = go (cuts_of last n) (cut_pieces n s) f
  where
    go : (cs : List ℕ) → (0 < length cs → Pieces m n cs) → (Pieces m n cs → P cs) → P cs
    go [] p g = z
    go (c ∷ cs) p g = g (p (omega arith))

pub cuts_rise : {m : ℕ} {last : List ℕ} (n : ℕ) → Sound m last → 0 < m → Rising n (cuts_of last n)
cuts_rise n s h = cuts_either (Rising n) n s (none_rise n) (λ r. pieces_rise r h)

-- ---- an area of n/2 indices is room enough
ends_apart : {m n : ℕ} {cs : List ℕ} → Pieces m n cs → 2 ≤ m → (i : ℕ) → i ≤ length cs + 1 → 2 * i ≤ get_or (ends n cs) i 0
ends_apart r h zero l = omega arith
ends_apart {cs = cs} r h (suc i) l = let e : suc i ≡ i + 1 = omega arith in rw e (omega (arith, r.long i (omega arith), ends_apart r h i (omega arith)))

pieces_half : {m n : ℕ} {cs : List ℕ} → Pieces m n cs → 2 ≤ m → length cs ≤ n / 2
pieces_half {n = n} {cs} r h = omega (arith, ends_apart r h (length cs + 1) (omega arith), end_at n cs)

pub cuts_half : {m : ℕ} {last : List ℕ} (n : ℕ) → Sound m last → 2 ≤ m → length (cuts_of last n) ≤ n / 2
cuts_half n s h = cuts_either (λ cs. length cs ≤ n / 2) n s (omega arith) (λ r. pieces_half r h)

-- the number and the cuts are those by the predecessors of 0 to n, whatever else the indices hold
pub front_count : {n : ℕ} (last rest : List ℕ) {before after : List ℕ} {r : ℕ} → Backtracked (last ++ rest) n before after r → n < length last → r ≡ length (cuts_of last n)
front_count {n} last rest b l = b.count ∙ ap length (cuts_front last rest n l)

front_written : {m n : ℕ} (last rest : List ℕ) {before after : List ℕ} {r : ℕ} → Backtracked (last ++ rest) n before after r → Sound m last → 2 ≤ m → n < length last → n / 2 ≤ length before
    → after ≡ cuts_of last n ++ drop r before
front_written {n = n} last rest {before} b s h l g =
    let few = cuts_half n s h in
    b.cuts
    ∙ ap (λ (cs : List ℕ). written cs before) (cuts_front last rest n l)
    ∙ written_room (cuts_of last n) before (omega arith)
    ∙ ap (λ (k : ℕ). cuts_of last n ++ drop k before) (sym (front_count last rest b l))

-- with that room the cuts fill the front of the area
pub room_front : {m n : ℕ} (last rest : List ℕ) {before after : List ℕ} {r : ℕ} → Backtracked (last ++ rest) n before after r → Sound m last → 2 ≤ m → n < length last → n / 2 ≤ length before
    → take r after ≡ cuts_of last n
room_front {n = n} last rest {r = r} b s h l g = rw (front_written last rest b s h l g) (take_at (cuts_of last n) _ r (sym (front_count last rest b l)))

-- and the rest is unchanged
pub room_rest : {m n : ℕ} (last rest : List ℕ) {before after : List ℕ} {r : ℕ} → Backtracked (last ++ rest) n before after r → Sound m last → 2 ≤ m → n < length last → n / 2 ≤ length before
    → drop r after ≡ drop r before
room_rest {n = n} last rest {r = r} b s h l g = rw (front_written last rest b s h l g) (drop_at (cuts_of last n) _ r (sym (front_count last rest b l)))
