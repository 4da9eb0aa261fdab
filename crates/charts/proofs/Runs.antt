-- Laws of a chart's run: how many records and indices there are, and that what a loop leaves, one result after another, is what the contracts call `lent`. Assumes nothing.
use mathlib.Core.Path.{◌≡◌, refl, sym, ◌∙◌, ap}
use Prim.Native.Nat.{ℕ, zero, suc, ◌≤◌, ◌<◌, ◌+◌}
use mathlib.Core.Bool.{Bool, true, false, cond}
use mathlib.Core.List.{List, [], ◌∷◌, ◌++◌, append_assoc}
use native.Mathlib.Omega.{arith}
use native.Mathlib.Numerals.{add-one}
use native.Mathlib.Nat.{not-suc-le-zero, le_of_suc-le-suc, eq-or-lt_of_le}
use mathlib.Core.Logic.{inl, inr}
use lib.ListN.{length, get_or, set, drop, length-set, length-append, length-drop}
use lib.Seq.{drop-cons, set_at, get_or-append_seam}
use borrow.Author.Tests.{lt-ltb}
use lib.Ieee.{Float, nan}
use Rattle.charts.specs.Runs.{state_at, record_at, records, points, following, lent}

pub length_lent : {D : Type 0} (results entry : List D) → length results ≤ length entry → length (lent results entry) ≡ length entry
length_lent results entry h = length-append results (drop (length results) entry) ∙ ap (λ (k : ℕ). length results + k) (length-drop (length results) entry) ∙ omega arith

-- where there is such a reading, the state that follows is the step's
pub following_is : {C S : Type 0} (step : C → S → ℕ → Float → S) (c : C) (xs : List Float) (i : ℕ) (s : S) → i < length xs → following step c xs i s ≡ step c s i (get_or xs i nan)
following_is step c xs i s h = rw (lt-ltb i (length xs) h)

-- ---- one result more at the front of a lent list
pub lent_more : {D : Type 0} (results entry : List D) (v fallback : D) (k : ℕ) → length results ≡ k → k < length entry → set (lent results entry) k v ≡ lent (results ++ (v ∷ [])) entry
lent_more results entry v fallback k e h =
    rw (length-append results (v ∷ []), e, add-one)
    (rw (drop-cons entry k fallback h) (set_at results (get_or entry k fallback) (drop (suc k) entry) v k e ∙ sym (append_assoc results (v ∷ []) (drop (suc k) entry))))

module _ {C S D : Type 0} (shown : S → D) (start : C → S) (step : C → S → ℕ → Float → S) (c : C) (xs : List Float) where
  -- the state after one reading more
  pub state_more : (i : ℕ) (s s' : S) → s ≡ state_at shown start step c xs i → i < length xs → s' ≡ following step c xs i s → s' ≡ state_at shown start step c xs (suc i)
  state_more i s s' state reads next = next ∙ following_is step c xs i s reads ∙ ap (λ (t : S). step c t i (get_or xs i nan)) state

  -- ---- records
  -- the lent list `entry` after `n` turns of the loop that fills it
  abbrev pub written : ℕ → List D → List D
  written zero entry = entry
  written (suc n) entry = set (written n entry) n (record_at shown start step c xs n)

  pub length_written : (n : ℕ) (entry : List D) → length (written n entry) ≡ length entry
  length_written zero entry = refl
  length_written (suc n) entry = length-set (written n entry) n (record_at shown start step c xs n) ∙ length_written n entry

  pub length_records : (n : ℕ) → length (records shown start step c xs n) ≡ n
  length_records zero = refl
  length_records (suc n) = length-append (records shown start step c xs n) (record_at shown start step c xs n ∷ []) ∙ ap (λ (k : ℕ). k + 1) (length_records n) ∙ add-one n

  pub written_lent : (n : ℕ) (entry : List D) → n ≤ length entry → written n entry ≡ lent (records shown start step c xs n) entry
  written_lent zero entry h = refl
  written_lent (suc n) entry h =
      ap (λ (l : List D). set l n (record_at shown start step c xs n)) (written_lent n entry (omega arith))
      ∙ lent_more (records shown start step c xs n) entry (record_at shown start step c xs n) (shown (start c)) n (length_records n) h

  -- the record at `i` among the first `n`, at the front of a lent list
  pub record_in : (n i : ℕ) (rest : List D) (fallback : D) → i < n → get_or (records shown start step c xs n ++ rest) i fallback ≡ record_at shown start step c xs i
  record_in zero i rest fallback h = absurd (not-suc-le-zero h)
  record_in (suc n) i rest fallback h =
      ap (λ (l : List D). get_or l i fallback) (append_assoc before (last ∷ []) rest)
      ∙ elim (eq-or-lt_of_le (le_of_suc-le-suc h)) [
        | inl e ↦ (ap (λ (k : ℕ). get_or (before ++ (last ∷ rest)) k fallback) (e ∙ sym (length_records n)) ∙ get_or-append_seam before last rest fallback ∙ ap (record_at shown start step c xs) (sym e))
        | inr l ↦ record_in n i (last ∷ rest) fallback l
      ]
    where
      before : List D
      before = records shown start step c xs n

      last : D
      last = record_at shown start step c xs n

  -- ---- indices
  pub points_few : (signals : D → Bool) (n : ℕ) → length (points shown start step c xs signals n) ≤ n
  points_few signals zero = omega arith
  points_few signals (suc n) = one_more (signals (record_at shown start step c xs n)) (points shown start step c xs signals n) n (points_few signals n)
    where
      one_more : (b : Bool) (p : List ℕ) (n : ℕ) → length p ≤ n → length (cond b (p ++ (n ∷ [])) p) ≤ suc n
      one_more true p n h = omega (arith, length-append p (n ∷ []))
      one_more false p n h = omega arith
