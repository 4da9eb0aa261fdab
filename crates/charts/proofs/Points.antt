-- For any chart: where the record of a reading signals, its index stands among the indices that signal; and an array of one field has at each index that of the record there. Assumes nothing.
use mathlib.Core.Path.{◌≡◌, refl, sym, ◌∙◌, ap}
use Prim.Native.Nat.{ℕ, zero, suc, ◌<◌}
use mathlib.Core.Bool.{Bool, true, false, cond}
use mathlib.Core.List.{List, [], ◌∷◌, ◌++◌, map}
use mathlib.Core.Logic.{inl, inr}
use native.Mathlib.Omega.{arith}
use native.Mathlib.Nat.{not-suc-le-zero, le_of_suc-le-suc, eq-or-lt_of_le}
use lib.ListN.{length, get_or, drop, length-append, length-map, get_or-append}
use lib.Seq.{get_or-append_seam}
use lib.Ieee.{Float}
use Rattle.charts.specs.Runs.{record_at, records, points, column}
use Rattle.charts.specs.Among.{Among}
use Rattle.charts.proofs.Runs.{length_records, record_in}

-- in front of other entries too
pub among_front : (l rest : List ℕ) (i : ℕ) → Among l (length l) i → Among (l ++ rest) (length l) i
among_front l rest i a = (a.0, a.1, get_or-append l rest 0 a.0 a.1 ∙ a.2)

among_longer : (l : List ℕ) (v i : ℕ) → Among l (length l) i → Among (l ++ (v ∷ [])) (length (l ++ (v ∷ []))) i
among_longer l v i a = let b = among_front l (v ∷ []) i a in (b.0, omega (arith, b.1, length-append l (v ∷ [])), b.2)

among_last : (l : List ℕ) (v : ℕ) → Among (l ++ (v ∷ [])) (length (l ++ (v ∷ []))) v
among_last l v = (length l, omega (arith, length-append l (v ∷ [])), get_or-append_seam l v [] 0)

module _ {C S D : Type 0} (shown : S → D) (start : C → S) (step : C → S → ℕ → Float → S) (c : C) (xs : List Float) (signals : D → Bool) where
  pub signal_among : (n i : ℕ) → i < n → signals (record_at shown start step c xs i) ≡ true → let l = points shown start step c xs signals n in Among l (length l) i
  signal_among zero i h s = absurd (not-suc-le-zero h)
  signal_among (suc n) i h s = elim (eq-or-lt_of_le (le_of_suc-le-suc h)) [
    | inl e ↦ here e
    | inr l ↦ later (signals (record_at shown start step c xs n)) (signal_among n i l s)
  ]
    where
      before : List ℕ
      before = points shown start step c xs signals n

      later : (b : Bool) → Among before (length before) i → let l = cond b (before ++ (n ∷ [])) before in Among l (length l) i
      later true a = among_longer before n i a
      later false a = a

      here : i ≡ n → let l = cond (signals (record_at shown start step c xs n)) (before ++ (n ∷ [])) before in Among l (length l) i
      here e = rw (ap (λ (k : ℕ). signals (record_at shown start step c xs k)) (sym e) ∙ s, e) (among_last before n)

-- ---- the same of an array of one field
mapped : {D A : Type 0} (field : D → A) (l : List D) (i : ℕ) (d : A) (z : D) → i < length l → get_or (map field l) i d ≡ field (get_or l i z)
mapped field [] i d z h = absurd (not-suc-le-zero h)
mapped field (x ∷ l) zero d z h = refl
mapped field (x ∷ l) (suc i) d z h = mapped field l i d z (le_of_suc-le-suc h)

module _ {C S D : Type 0} (shown : S → D) (start : C → S) (step : C → S → ℕ → Float → S) (c : C) (xs : List Float) where
  -- an array with `field` of the first `n` records at its front has that of the reading at `i` there
  pub field_in : {A : Type 0} (field : D → A) (entry : List A) (n i : ℕ) (d : A) → i < n → get_or (column field (records shown start step c xs n) entry) i d ≡ field (record_at shown start step c xs i)
  field_in field entry n i d h =
      let l = records shown start step c xs n in
      let z = shown (start c) in
      let k : i < length l = rw (length_records shown start step c xs n) h in
      get_or-append (map field l) (drop (length (map field l)) entry) d i (rw (length-map l field) k)
      ∙ mapped field l i d z k
      ∙ ap field (sym (get_or-append l [] z i k) ∙ record_in shown start step c xs n i [] z h)
