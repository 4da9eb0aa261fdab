-- Laws of the walk back: one turn of it, how many turns there are, which of the indices it reads, and the cuts in the order in which it meets them. Assumes nothing.
use Prim.Native.Nat.{ℕ, zero, suc, ◌≤◌, ◌<◌}
use mathlib.Core.Path.{◌≡◌, refl, sym, ap, ◌∙◌}
use mathlib.Core.Bool.{Bool, true, false, cond}
use mathlib.Core.List.{List, [], ◌∷◌, ◌++◌}
use native.Mathlib.Omega.{arith}
use native.Mathlib.Nat.{not-suc-le-zero, le_of_suc-le-suc, le_of_lt}
use borrow.Author.Tests.{ltb-true}
use lib.Dec.{ltb}
use lib.ListN.{length, get_or, length-append, get_or-append}
use Rattle.std.specs.Prelude.{reverse}
use Rattle.std.proofs.lemmas.List.{reverse-append, reverse-reverse, length-reverse}
use Rattle.backtrack.specs.Cuts.{predecessor_of, back_from, cuts_of}
use Rattle.backtrack.specs.Inner.Walk.{cuts_back}

-- ---- a predecessor
pub predecessor_below : (last : List ℕ) (t : ℕ) → 0 < t → predecessor_of last t < t
unfolding predecessor_of
predecessor_below last t h = go (ltb (get_or last t 0) t) refl
  where
    go : (b : Bool) → ltb (get_or last t 0) t ≡ b → cond b (get_or last t 0) 0 < t
    go true e = ltb-true _ _ e
    go false e = h

pub predecessor_le : (last : List ℕ) (t : ℕ) → predecessor_of last t ≤ t
unfolding predecessor_of
predecessor_le last t = go (ltb (get_or last t 0) t) refl
  where
    go : (b : Bool) → ltb (get_or last t 0) t ≡ b → cond b (get_or last t 0) 0 ≤ t
    go true e = le_of_lt (ltb-true _ _ e)
    go false e = omega arith

pub predecessor_at_most : (last : List ℕ) (t : ℕ) → predecessor_of last (suc t) ≤ t
predecessor_at_most last t = le_of_suc-le-suc (predecessor_below last (suc t) (omega arith))

-- ---- a walk
pub back_none : (k : ℕ) (last : List ℕ) → back_from k last 0 ≡ []
unfolding back_from
back_none zero last = refl
back_none (suc k) last = refl

-- `t` bounds the turns from `t`, and no greater bound adds one
back_bound : (k j : ℕ) (last : List ℕ) (t : ℕ) → t ≤ k → t ≤ j → back_from k last t ≡ back_from j last t
unfolding back_from
back_bound zero j last zero h l = sym (back_none j last)
back_bound zero j last (suc t) h l = absurd (not-suc-le-zero h)
back_bound (suc k) j last zero h l = sym (back_none j last)
back_bound (suc k) zero last (suc t) h l = absurd (not-suc-le-zero l)
back_bound (suc k) (suc j) last (suc t) h l =
    let p = predecessor_at_most last t in
    ap (λ (cs : List ℕ). cs ++ (suc t ∷ [])) (back_bound k j last (predecessor_of last (suc t)) (omega arith) (omega arith))

back_few : (k : ℕ) (last : List ℕ) (t : ℕ) → length (back_from k last t) ≤ k
unfolding back_from
back_few zero last t = omega arith
back_few (suc k) last zero = omega arith
back_few (suc k) last (suc t) = rw length-append (let h = back_few k last (predecessor_of last (suc t)) in omega arith)

-- the cuts that are left of a walk that has come to `t`
abbrev pub left_from : List ℕ → ℕ → List ℕ
left_from last t = back_from t last t

pub left_all : (last : List ℕ) (n t : ℕ) → t ≡ predecessor_of last n → cuts_of last n ≡ left_from last t
unfolding cuts_of
left_all last n t e = rw e (back_bound n (predecessor_of last n) last (predecessor_of last n) (predecessor_le last n) (omega arith))

pub left_none : (last : List ℕ) → left_from last 0 ≡ []
left_none last = back_none 0 last

-- one turn of the walk, from `t` to its predecessor
pub left_turn : (last : List ℕ) (t : ℕ) → 0 < t → left_from last t ≡ left_from last (predecessor_of last t) ++ (t ∷ [])
unfolding back_from
left_turn last zero h = absurd (not-suc-le-zero h)
left_turn last (suc t) h = let p = predecessor_at_most last t in ap (λ (cs : List ℕ). cs ++ (suc t ∷ [])) (back_bound t (predecessor_of last (suc t)) last (predecessor_of last (suc t)) p (omega arith))

pub cuts_few : (last : List ℕ) (n : ℕ) → length (cuts_of last n) ≤ n
unfolding cuts_of
cuts_few last n = back_few n last (predecessor_of last n)

-- ---- which indices count
pub cuts_no_readings : (last : List ℕ) → cuts_of last 0 ≡ []
unfolding cuts_of back_from
cuts_no_readings last = refl

predecessor_front : (last rest : List ℕ) (t : ℕ) → t < length last → predecessor_of (last ++ rest) t ≡ predecessor_of last t
unfolding predecessor_of
predecessor_front last rest t h = ap (λ (tau : ℕ). cond (ltb tau t) tau 0) (get_or-append last rest 0 t h)

back_front : (k : ℕ) (last rest : List ℕ) (t : ℕ) → t < length last → back_from k (last ++ rest) t ≡ back_from k last t
unfolding back_from
back_front zero last rest t h = refl
back_front (suc k) last rest zero h = refl
back_front (suc k) last rest (suc t) h =
    let p = predecessor_at_most last t in
    ap (λ (tau : ℕ). back_from k (last ++ rest) tau ++ (suc t ∷ [])) (predecessor_front last rest (suc t) h)
    ∙ ap (λ (cs : List ℕ). cs ++ (suc t ∷ [])) (back_front k last rest (predecessor_of last (suc t)) (omega arith))

-- those behind the predecessors of 0 to `n` do not count
pub cuts_front : (last rest : List ℕ) (n : ℕ) → n < length last → cuts_of (last ++ rest) n ≡ cuts_of last n
unfolding cuts_of
cuts_front last rest zero h = cuts_no_readings (last ++ rest) ∙ sym (cuts_no_readings last)
cuts_front last rest (suc n) h =
    let p = predecessor_at_most last n in
    ap (back_from (suc n) (last ++ rest)) (predecessor_front last rest (suc n) h)
    ∙ back_front (suc n) last rest (predecessor_of last (suc n)) (omega arith)

-- ---- the walk as the code goes it: its cuts, highest first
cuts_turn : (last : List ℕ) (t : ℕ) → 0 < predecessor_of last t → cuts_of last t ≡ cuts_of last (predecessor_of last t) ++ (predecessor_of last t ∷ [])
cuts_turn last t h =
    left_all last t (predecessor_of last t) refl
    ∙ left_turn last (predecessor_of last t) h
    ∙ ap (λ (cs : List ℕ). cs ++ (predecessor_of last t ∷ [])) (sym (left_all last (predecessor_of last t) (predecessor_of last (predecessor_of last t)) refl))

pub back_turn : (last : List ℕ) (t p : ℕ) → p ≡ predecessor_of last t → 0 < p → cuts_back last t ≡ p ∷ cuts_back last p
unfolding cuts_back
back_turn last t p e h = rw e (ap reverse (cuts_turn last t (rw e at h)) ∙ reverse-append (cuts_of last (predecessor_of last t)) (predecessor_of last t ∷ []))

no_cuts : (last : List ℕ) (t : ℕ) → 0 ≡ predecessor_of last t → cuts_of last t ≡ []
no_cuts last t e = left_all last t 0 e ∙ left_none last

no_predecessor : (last : List ℕ) → 0 ≡ predecessor_of last 0
no_predecessor last = omega (arith, predecessor_le last 0)

pub back_end : (last : List ℕ) (t : ℕ) → predecessor_of last t ≡ 0 → cuts_back last t ≡ []
unfolding cuts_back
back_end last t e = ap reverse (no_cuts last t (sym e))

pub back_over : (last : List ℕ) → cuts_back last 0 ≡ []
unfolding cuts_back
back_over last = ap reverse (no_cuts last 0 (no_predecessor last))

-- as many as the cuts
pub back_length : (last : List ℕ) (t : ℕ) → length (cuts_back last t) ≡ length (cuts_of last t)
unfolding cuts_back
back_length last t = length-reverse (cuts_of last t)

pub back_at_most : (last : List ℕ) (t : ℕ) → length (cuts_back last t) ≤ t
back_at_most last t = rw back_length (cuts_few last t)

-- turned about they are the cuts
pub back_cuts : (last : List ℕ) (t : ℕ) → reverse (cuts_back last t) ≡ cuts_of last t
unfolding cuts_back
back_cuts last t = reverse-reverse (cuts_of last t)
