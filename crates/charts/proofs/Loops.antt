-- The two loops over a series, for any chart: what is known in that of `analyze` and in that of `signal_points` after `i` readings, and that both come to the outcomes of their contracts. Assumes nothing.
use mathlib.Core.Path.{◌≡◌, refl, sym, ◌∙◌, ap}
use Prim.Native.Nat.{ℕ, suc, ◌≤◌, ◌<◌, ◌+◌}
use mathlib.Core.Bool.{Bool, true, false, cond}
use mathlib.Core.List.{List, [], ◌∷◌, ◌++◌}
use native.Mathlib.Omega.{arith}
use native.Mathlib.Numerals.{add-one}
use borrow.Author.Tests.{lt-ltb}
use lib.Dec.{ltb}
use lib.ListN.{length, get_or, set, length-append}
use lib.Ieee.{Float, nan}
use Rattle.std.specs.Prelude.{Result, Ok, Err}
use Rattle.refusals.specs.Limits.{max_readings}
use Rattle.refusals.specs.Tried.{count_of}
use Rattle.refusals.proofs.TriedLaws.{passes, refuses, verdict, no_count}
use Rattle.refusals.specs.declared.Refusal.{Refusal}
use Rattle.charts.specs.Runs.{state_at, points, lent}
use Rattle.charts.proofs.Runs.{lent_more, length_lent, length_written, points_few, written}
use Rattle.charts.specs.Answers.{chart_tests, chart_answer, admitted_as}
use Rattle.charts.specs.Outcomes.{analyzed, provided, signalled}
use Rattle.charts.specs.Notes.{noted}
use Rattle.charts.proofs.Answers.{passed_count, few, few_records, roomy}

-- ---- the loop of `analyze`
module _ {C S D : Type 0} (shown : S → D) (start : C → S) (step : C → S → ℕ → Float → S) (c : C) (xs : List Float) (n : ℕ) (entry : List D) where
  -- after `i` readings the state is `s`, and `l` is what the lent list `entry` has become
  pub record Recording (s : S) (i : ℕ) (l : List D) : Type 0 where
    pub within : i ≤ n
    pub state : s ≡ state_at shown start step c xs i
    pub writes : l ≡ written shown start step c xs i entry

  pub none_recorded : Recording (start c) 0 entry
  none_recorded = record { within = omega arith; state = refl; writes = refl }

  module _ (s : S) (i : ℕ) (l : List D) (r : Recording s i l) where
    pub recorded_length : length l ≡ length entry
    recorded_length = ap length r.writes ∙ length_written shown start step c xs i entry

    -- a turn: the reading at `i`, and its record written
    pub one_recorded : (s' : S) → i < n → s' ≡ step c s i (get_or xs i nan) → Recording s' (i + 1) (set l i (shown s'))
    one_recorded s' below next =
        let moves : s' ≡ state_at shown start step c xs (suc i) = next ∙ ap (λ (t : S). step c t i (get_or xs i nan)) r.state in
        record { within = omega (arith, below); state = rw add-one moves; writes = rw (add-one, r.writes, moves) refl }

    pub all_recorded : n ≤ i → l ≡ written shown start step c xs n entry
    all_recorded h = let e : n ≡ i = omega (arith, h, r.within) in rw e r.writes

-- ---- the loop of `signal_points`: `points` stand at the front of the lent indices, and `count` is their number
pub record Stands (points entry : List ℕ) (count : ℕ) (exit : List ℕ) : Type 0 where
  pub counted : count ≡ length points
  pub written : exit ≡ lent points entry

module _ {C S D : Type 0} (shown : S → D) (start : C → S) (step : C → S → ℕ → Float → S) (signals : D → Bool) (c : C) (xs : List Float) (n : ℕ) (entry : List ℕ) where
  -- after `i` readings the state is `s`, and the indices among them that signal stand at the front of `l`
  pub record Marking (s : S) (count i : ℕ) (l : List ℕ) : Type 0 where
    pub within : i ≤ n
    pub state : s ≡ state_at shown start step c xs i
    pub stands : Stands (points shown start step c xs signals i) entry count l

  pub none_marked : Marking (start c) 0 0 entry
  none_marked = record { within = omega arith; state = refl; stands = record { counted = refl; written = refl } }

  module _ (s : S) (count i : ℕ) (l : List ℕ) (m : Marking s count i l) (room : n ≤ length entry) where
    pub marked_length : length l ≡ length entry
    marked_length =
        let f = points_few shown start step c xs signals i in
        ap length m.stands.written ∙ length_lent (points shown start step c xs signals i) entry (omega (arith, f, m.within))

    pub all_marked : n ≤ i → Stands (points shown start step c xs signals n) entry count l
    all_marked h = let e : n ≡ i = omega (arith, h, m.within) in rw e m.stands

    -- a turn: the reading at `i`, and its index noted
    module _ (s' : S) (r : ℕ) (l' : List ℕ) (below : i < n) (next : s' ≡ step c s i (get_or xs i nan)) (left : ◌≡◌ {A = ℕ × List ℕ} (r, l') (noted (signals (shown s')) i count l)) where
      moves : s' ≡ state_at shown start step c xs (suc i)
      moves = next ∙ ap (λ (t : S). step c t i (get_or xs i nan)) m.state

      -- there is room for one index more
      room_for : ltb count (length l) ≡ true
      room_for = lt-ltb count (length l) (omega (arith, marked_length, points_few shown start step c xs signals i, m.stands.counted, below))

      stands_more : (b : Bool) → signals (shown s') ≡ b → let p = points shown start step c xs signals i in Stands (cond b (p ++ (i ∷ [])) p) entry r l'
      stands_more true e =
          let p = points shown start step c xs signals i in
          let more = rw (e, room_for) at left in
          record {
            counted = ap (λ (o : ℕ × List ℕ). o.0) more ∙ ap (λ (k : ℕ). k + 1) m.stands.counted ∙ sym (length-append p (i ∷ []));
            written =
                ap (λ (o : ℕ × List ℕ). o.1) more
                ∙ ap (λ (t : List ℕ). set t count i) m.stands.written
                ∙ lent_more p entry i 0 count (sym m.stands.counted) (omega (arith, points_few shown start step c xs signals i, m.stands.counted, below));
          }
      stands_more false e = let same = rw e at left in record { counted = ap (λ (o : ℕ × List ℕ). o.0) same ∙ m.stands.counted; written = ap (λ (o : ℕ × List ℕ). o.1) same ∙ m.stands.written }

      pub one_more : Marking s' r (i + 1) l'
      one_more =
          let tells : signals (shown s') ≡ signals (shown (state_at shown start step c xs (suc i))) = ap (λ (t : S). signals (shown t)) moves in
          record { within = omega (arith, below); state = rw add-one moves; stands = rw add-one (stands_more (signals (shown (state_at shown start step c xs (suc i)))) tells) }

-- ---- the outcomes, where the settings and the sizes were admitted with the count `n`, and where they were refused
module _ (ts : List (Bool × Refusal)) (n room : ℕ) where
  pub admitted_sizes : (k : ℕ) → Ok k ≡ admitted_as ts n room → (k ≡ n) × (n ≤ room) × (n ≤ max_readings)
  unfolding chart_answer
  admitted_sizes k e = elim (verdict (chart_tests ts n room)) [
    | passes p ↦ (ap count_of (e ∙ passed_count ts n room p n), roomy ts n room p, few ts n room p)
    | refuses r f ↦ absurd (no_count r k (e ∙ f n))
  ]

  -- another count is answered where one is, and the same refusal where it is refused
  answers_count : (k count : ℕ) → Ok k ≡ admitted_as ts n room → Ok count ≡ chart_answer ts n room count
  unfolding chart_answer
  answers_count k count e = elim (verdict (chart_tests ts n room)) [
    | passes p ↦ sym (passed_count ts n room p count)
    | refuses r f ↦ absurd (no_count r k (e ∙ f n))
  ]

  answers_refusal : (r : Refusal) (count : ℕ) → Err r ≡ admitted_as ts n room → Err r ≡ chart_answer ts n room count
  unfolding chart_answer
  answers_refusal r count e = elim (verdict (chart_tests ts n room)) [
    | passes p ↦ absurd (no_count r n (sym (passed_count ts n room p n) ∙ sym e))
    | refuses q f ↦ e ∙ f n ∙ sym (f count)
  ]

module _ {D : Type 0} (ts : List (Bool × Refusal)) (n : ℕ) (records : ℕ → List D) (entry : List D) where
  pub analyzed_ok : (k : ℕ) (l : List D) → Ok k ≡ admitted_as ts n (length entry) → l ≡ lent (records k) entry → ◌≡◌ {A = Result ℕ Refusal × List D} (Ok k, l) (analyzed ts n records entry)
  analyzed_ok k l e w = ap (λ (x : List D). (Ok k, x)) w ∙ ap (λ (r : Result ℕ Refusal). (r, lent (records (count_of r)) entry)) e

  pub analyzed_err : (r : Refusal) → Err r ≡ admitted_as ts n (length entry) → [] ≡ records 0 → ◌≡◌ {A = Result ℕ Refusal × List D} (Err r, entry) (analyzed ts n records entry)
  analyzed_err r e z = ap (λ (x : List D). (Err r, lent x entry)) z ∙ ap (λ (a : Result ℕ Refusal). (a, lent (records (count_of a)) entry)) e

  -- of a run that has these records for as many readings as a series may have
  pub analyzed_agree : (own : ℕ → List D) → ((k : ℕ) → k ≤ max_readings → records k ≡ own k) → ◌≡◌ {A = Result ℕ Refusal × List D} (analyzed ts n records entry) (analyzed ts n own entry)
  analyzed_agree own same = ap (λ (l : List D). (admitted_as ts n (length entry), lent l entry)) (same (count_of (admitted_as ts n (length entry))) (few_records ts n (length entry)))

module _ (ts : List (Bool × Refusal)) (n : ℕ) (points entry : List ℕ) where
  pub signalled_ok : (k count : ℕ) (l : List ℕ) → Ok k ≡ admitted_as ts n (length entry) → Stands points entry count l → ◌≡◌ {A = Result ℕ Refusal × List ℕ} (Ok count, l) (signalled ts n points entry)
  signalled_ok k count l e s =
      rw (s.counted, s.written) (ap (λ (a : Result ℕ Refusal). (a, lent (provided a points) entry)) (answers_count ts n (length entry) k (length points) e))

  pub signalled_err : (r : Refusal) → Err r ≡ admitted_as ts n (length entry) → ◌≡◌ {A = Result ℕ Refusal × List ℕ} (Err r, entry) (signalled ts n points entry)
  signalled_err r e = ap (λ (a : Result ℕ Refusal). (a, lent (provided a points) entry)) (answers_refusal ts n (length entry) r (length points) e)

  pub signalled_agree : (own : List ℕ) → (n ≤ max_readings → points ≡ own) → ◌≡◌ {A = Result ℕ Refusal × List ℕ} (signalled ts n points entry) (signalled ts n own entry)
  unfolding chart_answer
  signalled_agree own same = elim (verdict (chart_tests ts n (length entry))) [
    | passes p ↦ ap (λ (l : List ℕ). signalled ts n l entry) (same (few ts n (length entry) p))
    | refuses r f ↦ rw (f (length points), f (length own))
  ]
