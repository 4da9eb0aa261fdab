-- The loop that fills one array for each field of a chart's records, for any chart and field: what is known after `i` readings, and one reading more. Assumes nothing.
use mathlib.Core.Path.{◌≡◌, refl, ◌∙◌, ap}
use Prim.Native.Nat.{ℕ, suc, ◌≤◌, ◌<◌, ◌+◌}
use mathlib.Core.List.{List, [], ◌∷◌, ◌++◌, map, map-append}
use native.Mathlib.Omega.{arith}
use native.Mathlib.Numerals.{add-one}
use lib.ListN.{length, set, length-map}
use lib.Ieee.{Float}
use Rattle.charts.specs.Runs.{state_at, record_at, records, following, column}
use Rattle.charts.proofs.Runs.{state_more, lent_more, length_lent, length_records}

module _ {C S D : Type 0} (shown : S → D) (start : C → S) (step : C → S → ℕ → Float → S) (c : C) (xs : List Float) where
  -- the array `entry` with one field of the first `i` records at its front
  abbrev pub filled : {A : Type 0} → (D → A) → ℕ → List A → List A
  filled field i entry = column field (records shown start step c xs i) entry

  -- a turn: the field of the record at `i`, which the state `s` shows
  pub one_filled : {A : Type 0} (field : D → A) (fallback : A) (i : ℕ) (s : S) → s ≡ state_at shown start step c xs (suc i) → (entry l : List A) → i < length entry → l ≡ filled field i entry → set l i (field (shown s)) ≡ filled field (i + 1) entry
  one_filled {A} field fallback i s moves entry l room e =
      let before = records shown start step c xs i in
      let v : field (shown s) ≡ field (record_at shown start step c xs i) = ap (λ (t : S). field (shown t)) moves in
      let m : map field (before ++ (record_at shown start step c xs i ∷ [])) ≡ map field before ++ (field (record_at shown start step c xs i) ∷ []) = map-append field before (record_at shown start step c xs i ∷ []) in
      rw (add-one, m, v, e) (lent_more (map field before) entry (field (record_at shown start step c xs i)) fallback i (length-map before field ∙ length_records shown start step c xs i) room)

  -- in a loop over `n` readings
  module _ (n : ℕ) where
    -- after `i` of them the state is `s`
    pub record Going (s : S) (i : ℕ) : Type 0 where
      pub within : i ≤ n
      pub state : s ≡ state_at shown start step c xs i

    pub not_gone : Going (start c) 0
    not_gone = record { within = omega arith; state = refl }

    -- a turn: the reading at `i`
    pub one_gone : (s : S) (i : ℕ) → Going s i → (s' : S) → n ≤ length xs → i < n → s' ≡ following step c xs i s → Going s' (i + 1)
    one_gone s i g s' readings below next =
        let moves = state_more shown start step c xs i s s' g.state (omega (arith, below, readings)) next in
        record { within = omega (arith, below); state = rw add-one moves }

    -- the array keeps its length
    pub filled_length : {A : Type 0} (field : D → A) (i : ℕ) (entry l : List A) → i ≤ n → n ≤ length entry → l ≡ filled field i entry → length l ≡ length entry
    filled_length field i entry l h room f =
        let e : length (map field (records shown start step c xs i)) ≡ i = length-map (records shown start step c xs i) field ∙ length_records shown start step c xs i in
        ap length f ∙ length_lent (map field (records shown start step c xs i)) entry (omega (arith, e, h, room))

    -- the loop's end
    pub all_filled : {A : Type 0} (field : D → A) (entry l : List A) (s : S) (i : ℕ) → Going s i → n ≤ i → l ≡ filled field i entry → l ≡ filled field n entry
    all_filled field entry l s i g h e = let q : i ≡ n = omega (arith, h, g.within) in e ∙ ap (λ (k : ℕ). filled field k entry) q
