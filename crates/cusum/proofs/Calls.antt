-- Promise 3 in the words of the calls. If `run_length` answers `At n`, then the nth of any next n finite readings at the level or beyond it signals on the asked sum's side in the records that `analyze` wrote, and is among the indices that `signal_points` wrote.
-- And a chart that is fed one level is the chart over a series of that level. Assumes nothing.
use mathlib.Core.Path.{◌≡◌, refl, sym, ap, ◌∙◌}
use Prim.Native.Nat.{ℕ, zero, suc, ◌+◌, ◌≤◌, ◌<◌}
use native.Mathlib.Omega.{arith}
use mathlib.Core.Bool.{Bool, true, false, not, true≢false}
use mathlib.Core.List.{List, [], ◌∷◌, ◌++◌}
use lib.Dec.{T}
use lib.ListN.{length, get_or, drop, replicate, get_or-replicate}
use lib.Ieee.{Float, nan}
use Rattle.std.specs.Prelude.{Result, Ok, Some}
use Rattle.floats.specs.Numbers.{◌<ᶠ◌}
use Rattle.floats.specs.Finite.{finite}
use Rattle.refusals.specs.Limits.{max_readings}
use Rattle.refusals.proofs.TriedLaws.{answered_passed, passed_first, passed_right}
use Rattle.refusals.specs.declared.Refusal.{Refusal}
use Rattle.charts.specs.Runs.{state_at, lent}
use Rattle.charts.specs.Answers.{chart_answer}
use Rattle.charts.specs.Outcomes.{provided}
use Rattle.charts.specs.Among.{Among}
use Rattle.charts.proofs.Points.{among_front, signal_among}
use Rattle.charts.specs.Sides.{signals, faces}
use Rattle.charts.proofs.SideLaws.{faces_signals}
use Rattle.charts.proofs.Answers.{count_accepted}
use Rattle.cusum.specs.declared.Cusum.{Cusum}
use Rattle.cusum.specs.declared.CusumResult.{CusumResult}
use Rattle.charts.specs.declared.Sum.{Sum}
use Rattle.cusum.specs.Chart.{accepted, tests_of, fresh, shown_of, start_state, next_state, record_at, signal_of, signalling, analyzed, signalled}
use Rattle.charts.specs.Hearing.{heard_as}
use Rattle.cusum.specs.RunLength.{sum_of, fed, heard_from, heard, run_length}
use Rattle.cusum.specs.Promise.{FirstHeard, Lasting}
use Rattle.cusum.proofs.SettingLaws.{passed_accepted}
use Rattle.cusum.proofs.Hearing.{fed_once, heard_now, heard_later}
use Rattle.cusum.proofs.RunLength.{heard_is_first}
use Rattle.cusum.proofs.Promise.{in_series, lasting_sides, lasting_sides_lent}

-- ---- a chart that is fed one level
module _ (c : Cusum) (v : Float) (k : ℕ) where
  fed_before : (i : ℕ) → i ≤ k → shown_of (state_at shown_of start_state next_state c (replicate k v) i) ≡ fed c v i
  unfolding fed
  fed_before zero h = refl
  fed_before (suc i) h = rw (fed_before i (omega arith), get_or-replicate k i v nan (omega arith))

  -- the record of the reading at `i`, of `k` readings of the level `v`
  pub fed_is_series : (i : ℕ) → i < k → record_at c (replicate k v) i ≡ fed c v (suc i)
  fed_is_series i h = fed_before (suc i) h

-- ---- what `At n` says
record HeardFirst (c : Cusum) (v : Float) (asked : Sum) (n : ℕ) : Type 0 where
  level : T (finite v)
  first : FirstHeard c v asked n

heard_first : (c : Cusum) (v : Float) (asked : Sum) (n : ℕ) → heard_as (Ok (Some n)) ≡ run_length c v asked → HeardFirst c v asked n
unfolding run_length
heard_first c v asked n e =
    let level_test : Bool × Refusal = (not (finite v), Refusal.NonFinite 0 0) in
    let said = answered_passed (tests_of c ++ (level_test ∷ [])) (n ∷ []) (heard c v asked) e in
    record { level = not_not (finite v) (passed_first level_test [] (passed_right (tests_of c) (level_test ∷ []) said.0)); first = (heard_is_first c v asked n (sym said.1)).0 }
  where
    not_not : (b : Bool) → not b ≡ false → T b
    not_not true e = tt
    not_not false e = absurd (true≢false e)

-- what is heard is one number or none, so that its first, where it is above 0, says it
one_from : (c : Cusum) (v : Float) (asked : Sum) (n k m : ℕ) (r : CusumResult) → get_or (heard_from c v asked k m r) 0 0 ≡ n → 0 < n → heard_from c v asked k m r ≡ n ∷ []
unfolding heard_from
one_from c v asked n zero m r e h = absurd (none n e h)
  where
    none : (n : ℕ) → 0 ≡ n → 0 < n → ⊥
    none n e h = omega (arith, e, h)
one_from c v asked n (suc k) m r e h = go (c.h <ᶠ sum_of asked (fed_once c v asked r m)) refl (one_from c v asked n k (suc m) (fed_once c v asked r m))
  where
    go : (b : Bool) → (c.h <ᶠ sum_of asked (fed_once c v asked r m)) ≡ b → (get_or (heard_from c v asked k (suc m) (fed_once c v asked r m)) 0 0 ≡ n → 0 < n → heard_from c v asked k (suc m) (fed_once c v asked r m) ≡ n ∷ [])
        → heard_from c v asked (suc k) m r ≡ n ∷ []
    go true t later = let now = heard_now c v asked k m r t in now ∙ ap (λ (j : ℕ). j ∷ []) (sym (ap (λ (l : List ℕ). get_or l 0 0) now) ∙ e)
    go false t later = let on = heard_later c v asked k m r t in on ∙ later (sym (ap (λ (l : List ℕ). get_or l 0 0) on) ∙ e) h

pub heard_one : (c : Cusum) (v : Float) (asked : Sum) (n : ℕ) → get_or (heard c v asked) 0 0 ≡ n → 0 < n → heard c v asked ≡ n ∷ []
unfolding heard
heard_one c v asked n = one_from c v asked n max_readings 0 fresh

-- ---- the promise
module _ (c : Cusum) (v : Float) (asked : Sum) (n : ℕ) (heard_at : heard_as (Ok (Some n)) ≡ run_length c v asked) (xs : List Float) (p d : ℕ) (lasting : Lasting asked v xs p d n) where
  -- the definition's record, of settings that are accepted: its side is above or both, and for the lower sum below or both
  pub record_side : T (accepted c) → faces asked (record_at c xs (p + d)).side ≡ true
  record_side ok = let f = heard_first c v asked n heard_at in lasting_sides c ok asked v f.level n f.first xs p d lasting

  -- where `analyze` answered with records, that of the reading at `p + d` has such a side
  pub analyze_side : (entry exit : List CusumResult) (k : ℕ) → ◌≡◌ {A = Result ℕ Refusal × List CusumResult} (Ok k, exit) (analyzed c xs entry) → faces asked (get_or exit (p + d) fresh).side ≡ true
  analyze_side entry exit k a = let f = heard_first c v asked n heard_at in lasting_sides_lent c xs entry exit k a asked v f.level n f.first p d lasting

  -- so that both signal
  record_signals : T (accepted c) → signals (record_at c xs (p + d)).side ≡ true
  record_signals ok = faces_signals asked (record_at c xs (p + d)).side (record_side ok)

  pub analyze_signals : (entry exit : List CusumResult) (k : ℕ) → ◌≡◌ {A = Result ℕ Refusal × List CusumResult} (Ok k, exit) (analyzed c xs entry) → signals (get_or exit (p + d) fresh).side ≡ true
  analyze_signals entry exit k a = faces_signals asked (get_or exit (p + d) fresh).side (analyze_side entry exit k a)

  -- where `signal_points` answered with `count` indices, `p + d` is one of them
  pub signal_points_has : (entry exit : List ℕ) (count : ℕ) → ◌≡◌ {A = Result ℕ Refusal × List ℕ} (Ok count, exit) (signalled c xs entry) → Among exit count (p + d)
  signal_points_has entry exit count a =
      let points = signalling c xs (length xs) in
      let answer : Ok count ≡ chart_answer (tests_of c) (length xs) (length entry) (length points) = ap (λ (o : Result ℕ Refusal × List ℕ). o.0) a in
      let counts = count_accepted (tests_of c) (length xs) (length entry) (length points) count answer in
      let left : exit ≡ lent points entry = ap (λ (o : Result ℕ Refusal × List ℕ). o.1) a ∙ ap (λ (r : Result ℕ Refusal). lent (provided r points) entry) (sym answer) in
      rw (left, counts.1)
      (among_front points (drop (length points) entry) (p + d)
      (signal_among shown_of start_state next_state c xs signal_of (length xs) (p + d) (in_series xs (p + d) lasting.last) (record_signals (passed_accepted c counts.0))))
