-- The editions of an EWMA chart: what holds of both, and what of each alone. Of the states of a run, and of what `analyze` and `signal_points` answer and leave. Assumes nothing.
use mathlib.Core.Path.{◌≡◌, refl, sym, ap, ap₂, ◌∙◌}
use Prim.Native.Nat.{ℕ, zero, suc, ◌≤◌, ◌<◌}
use native.Mathlib.Nat.{zero-add}
use native.Mathlib.Omega.{arith}
use mathlib.Core.Bool.{Bool, true, false, cond}
use mathlib.Core.List.{List, [], ◌∷◌, ◌++◌}
use lib.ListN.{length, get_or}
use lib.Ieee.{Float, nan}
use Rattle.std.specs.Prelude.{Result, Ok}
use Rattle.refusals.specs.declared.Refusal.{Refusal}
use Rattle.floats.specs.Numbers.{◌+ᶠ◌, ◌-ᶠ◌}
use Rattle.floats.specs.Finite.{finite}
use Rattle.refusals.specs.Tried.{count_of}
use Rattle.charts.specs.Answers.{admitted_as}
use Rattle.charts.specs.Outcomes as Outcomes
use Rattle.charts.specs.Runs.{state_at, lent}
use Rattle.charts.specs.Spans.{count_in}
use Rattle.charts.specs.declared.Observation.{Observation}
use Rattle.charts.specs.declared.Place.{Place}
use Rattle.charts.proofs.Answers.{within_both}
use Rattle.charts.proofs.Written.{analyzed_writes}
use Rattle.ewma.specs.declared.Edition.{Edition}
use Rattle.ewma.specs.declared.Edition.TheVariants.{First, Second}
use Rattle.ewma.specs.declared.Ewma.{Ewma}
use Rattle.ewma.specs.declared.EwmaResult.{EwmaResult}
use Rattle.ewma.specs.Chart.{tests_of, place_after, half_width_at, averaged, step_of, Charted, record_of, blank, fresh, next_of, record_at, records, signal_of, signalling, analyzed, signalled}
use Rattle.ewma.specs.Editions.{under, place_at, finites, Gapless, itself, next_record, rust_records}

-- the state after the first `n` readings
abbrev after : Ewma → List Float → ℕ → Charted
after c xs n = state_at record_of fresh next_of c xs n

-- the reading of `xs` at `n`
abbrev at : List Float → ℕ → Float
at xs n = get_or xs n nan

-- ---- the place is at most the index and 1
pub place_next : (e : Edition) (before : Place) (i : Observation) (x : Float) → before.0 ≤ i.0 → (place_after e before i x).0 ≤ suc i.0
place_next First before i x h = omega arith
place_next Second before i x h = go (finite x)
  where
    go : (b : Bool) → let q : Place = cond b (record { 0 = suc before.0 }) before in q.0 ≤ suc i.0
    go true = omega (arith, h)
    go false = omega (arith, h)

pub place_within : (c : Ewma) (xs : List Float) (n : ℕ) → (place_at c xs n).0 ≤ n
place_within c xs zero = omega arith
place_within c xs (suc n) = place_next c.edition (place_at c xs n) (record { 0 = n }) (at xs n) (place_within c xs n)

-- ---- the statistic is that of any other edition
-- it does not look at the place
moved : Ewma → Float → Float → Float
moved c before x = cond (finite x) (averaged c before x) before

statistic_moves : (c : Ewma) (s : Charted) (i : ℕ) (x : Float) → (next_of c s i x).0.ewma ≡ moved c s.0.ewma x
unfolding step_of moved
statistic_moves c s i x = go (finite x) refl
  where
    go : (b : Bool) → finite x ≡ b → (next_of c s i x).0.ewma ≡ moved c s.0.ewma x
    go true e = rw (step_of, moved, e)
    go false e = rw (step_of, moved, e)

module _ (c : Ewma) (e f : Edition) (xs : List Float) where
  pub statistics_agree : (n : ℕ) → (after (under e c) xs n).0.ewma ≡ (after (under f c) xs n).0.ewma
  unfolding moved
  statistics_agree zero = refl
  statistics_agree (suc n) =
      statistic_moves (under e c) (after (under e c) xs n) n (at xs n)
      ∙ ap (λ (v : Float). moved c v (at xs n)) (statistics_agree n)
      ∙ sym (statistic_moves (under f c) (after (under f c) xs n) n (at xs n))

  -- of what `analyze` wrote under both
  pub analyze_statistics : (entry exit entry' exit' : List EwmaResult) (k k' : ℕ) → ◌≡◌ {A = Result ℕ Refusal × List EwmaResult} (Ok k, exit) (analyzed (under e c) xs entry)
      → ◌≡◌ {A = Result ℕ Refusal × List EwmaResult} (Ok k', exit') (analyzed (under f c) xs entry') → (i : ℕ) → i < k → i < k' → (get_or exit i (blank c)).ewma ≡ (get_or exit' i (blank c)).ewma
  analyze_statistics entry exit entry' exit' k k' a b i h g =
      ap (λ (r : EwmaResult). r.ewma) ((analyzed_writes record_of fresh next_of (under e c) xs (tests_of (under e c)) entry exit k a).holds i (blank c) h)
      ∙ statistics_agree (suc i)
      ∙ sym (ap (λ (r : EwmaResult). r.ewma) ((analyzed_writes record_of fresh next_of (under f c) xs (tests_of (under f c)) entry' exit' k' b).holds i (blank c) g))

-- ---- without gaps the editions agree
-- then the place after `n` readings is `n`
full_next : (e : Edition) (before : Place) (n : ℕ) (x : Float) → finite x ≡ true → before.0 ≡ n → place_after e before (record { 0 = n }) x ≡ record { 0 = suc n }
full_next First before n x t h = refl
full_next Second before n x t h = rw t (ap (λ (k : ℕ). record { 0 = suc k }) h)

full_place : (c : Ewma) (xs : List Float) (n : ℕ) → Gapless xs n → (place_at c xs n).0 ≡ n
full_place c xs zero g = refl
full_place c xs (suc n) g = ap (λ (p : Place). p.0) (full_next c.edition (place_at c xs n) n (at xs n) (g n (omega arith)) (full_place c xs n (λ i h. g i (omega (arith, h)))))

-- a step at a given place is that of any other edition
step_same : (c : Ewma) (e f : Edition) (place : Place) (r : EwmaResult) (i : Observation) (x : Float) → step_of (under e c) place r i x ≡ step_of (under f c) place r i x
unfolding step_of half_width_at
step_same c e f place r i x = refl

module _ (c : Ewma) (e f : Edition) (xs : List Float) where
  pub editions_agree : (n : ℕ) → Gapless xs n → after (under e c) xs n ≡ after (under f c) xs n
  editions_agree zero g = refl
  editions_agree (suc n) g =
      full e ∙ ap (λ (r : EwmaResult). (r, there)) (step_same c e f there (after (under e c) xs n).0 (record { 0 = n }) (at xs n) ∙ ap (λ (s : Charted). step_of (under f c) there s.0 (record { 0 = n }) (at xs n)) (editions_agree n earlier)) ∙ sym (full f)
    where
      there : Place
      there = record { 0 = suc n }

      earlier : Gapless xs n
      earlier i h = g i (omega (arith, h))

      full : (d : Edition) → after (under d c) xs (suc n) ≡ (step_of (under d c) there (after (under d c) xs n).0 (record { 0 = n }) (at xs n), there)
      full d =
          ap (λ (p : Place). (step_of (under d c) p (after (under d c) xs n).0 (record { 0 = n }) (at xs n), p))
          (full_next d (place_at (under d c) xs n) n (at xs n) (g n (omega arith)) (full_place (under d c) xs n earlier))

  record_agrees : (n : ℕ) → Gapless xs (suc n) → record_at (under e c) xs n ≡ record_at (under f c) xs n
  record_agrees n g = ap record_of (editions_agree (suc n) g)

  pub records_agree : (n : ℕ) → Gapless xs n → records (under e c) xs n ≡ records (under f c) xs n
  records_agree zero g = refl
  records_agree (suc n) g = ap₂ (λ (l : List EwmaResult) (r : EwmaResult). l ++ (r ∷ [])) (records_agree n (λ i h. g i (omega (arith, h)))) (record_agrees n g)

  pub points_agree : (n : ℕ) → Gapless xs n → signalling (under e c) xs n ≡ signalling (under f c) xs n
  points_agree zero g = refl
  points_agree (suc n) g = ap₂ (λ (r : EwmaResult) (l : List ℕ). cond (signal_of r) (l ++ (n ∷ [])) l) (record_agrees n g) (points_agree n (λ i h. g i (omega (arith, h))))

  -- of the calls, on a series without gaps
  pub analyze_agree : Gapless xs (length xs) → (entry : List EwmaResult) → analyzed (under e c) xs entry ≡ analyzed (under f c) xs entry
  unfolding tests_of
  analyze_agree g entry =
      let answer = admitted_as (tests_of c) (length xs) (length entry) in
      let few = (within_both (tests_of c) (length xs) (length entry)).0 in
      ap (λ (l : List EwmaResult). (answer, lent l entry)) (records_agree (count_of answer) (λ i h. g i (omega (arith, h, few))))

  pub signal_points_agree : Gapless xs (length xs) → (entry : List ℕ) → signalled (under e c) xs entry ≡ signalled (under f c) xs entry
  unfolding tests_of
  signal_points_agree g entry = ap (λ (l : List ℕ). Outcomes.signalled (tests_of c) (length xs) l entry) (points_agree (length xs) g)

  -- of the first `n` records that `analyze` wrote, where the first `n` readings are finite
  pub analyze_fronts_agree : (n : ℕ) → Gapless xs n → (entry exit entry' exit' : List EwmaResult) (k k' : ℕ) → ◌≡◌ {A = Result ℕ Refusal × List EwmaResult} (Ok k, exit) (analyzed (under e c) xs entry)
      → ◌≡◌ {A = Result ℕ Refusal × List EwmaResult} (Ok k', exit') (analyzed (under f c) xs entry') → (i : ℕ) → i < n → i < k → i < k' → get_or exit i (blank c) ≡ get_or exit' i (blank c)
  analyze_fronts_agree n gapless entry exit entry' exit' k k' a b i l h g =
      (analyzed_writes record_of fresh next_of (under e c) xs (tests_of (under e c)) entry exit k a).holds i (blank c) h
      ∙ record_agrees i (λ j m. gapless j (omega (arith, l, m)))
      ∙ sym ((analyzed_writes record_of fresh next_of (under f c) xs (tests_of (under f c)) entry' exit' k' b).holds i (blank c) g)

-- ---- the limits of a record lie the width of its place from the target
pub step_limits : (c : Ewma) (place : Place) (r : EwmaResult) (i : Observation) (x : Float) → let q = step_of c place r i x in (q.ucl ≡ c.target +ᶠ half_width_at c place) × (q.lcl ≡ c.target -ᶠ half_width_at c place)
unfolding step_of
step_limits c place r i x = go (finite x) refl
  where
    go : (b : Bool) → finite x ≡ b → let q = step_of c place r i x in (q.ucl ≡ c.target +ᶠ half_width_at c place) × (q.lcl ≡ c.target -ᶠ half_width_at c place)
    go true e = (rw (step_of, e), rw (step_of, e))
    go false e = (rw (step_of, e), rw (step_of, e))

pub record_limits : (c : Ewma) (xs : List Float) (i : ℕ) → let r = record_at c xs i in let half = half_width_at c (place_at c xs (suc i)) in (r.ucl ≡ c.target +ᶠ half) × (r.lcl ≡ c.target -ᶠ half)
record_limits c xs i = let s = after c xs i in step_limits c (place_after c.edition s.1 (record { 0 = i }) (at xs i)) s.0 (record { 0 = i }) (at xs i)

-- ---- the second edition
module _ (c : Ewma) (xs : List Float) where
  -- the place counts the finite readings
  pub second_counts : (n : ℕ) → (place_at (under Second c) xs n).0 ≡ finites xs n
  unfolding count_in
  second_counts zero = refl
  second_counts (suc n) = rw (zero-add n) (go (finite (at xs n)) (second_counts n))
    where
      go : (b : Bool) → (place_at (under Second c) xs n).0 ≡ finites xs n → let q : Place = cond b (record { 0 = suc (place_at (under Second c) xs n).0 }) (place_at (under Second c) xs n) in q.0 ≡ cond b (suc (finites xs n)) (finites xs n)
      go true h = ap suc h
      go false h = h

  -- a gap stays at the last place
  pub second_gap_stays : (i : ℕ) → finite (at xs i) ≡ false → place_at (under Second c) xs (suc i) ≡ place_at (under Second c) xs i
  second_gap_stays i e = rw e

  -- and repeats the limits of the reading before it
  pub record_gap_repeats : (i : ℕ) → finite (at xs (suc i)) ≡ false → let r = record_at (under Second c) xs (suc i) in let before = record_at (under Second c) xs i in (r.ucl ≡ before.ucl) × (r.lcl ≡ before.lcl)
  record_gap_repeats i e =
      let s = under Second c in
      let here = record_limits s xs (suc i) in
      let before = record_limits s xs i in
      let same : half_width_at s (place_at s xs (suc (suc i))) ≡ half_width_at s (place_at s xs (suc i)) = ap (half_width_at s) (second_gap_stays (suc i) e) in
      (here.0 ∙ ap (λ (half : Float). c.target +ᶠ half) same ∙ sym before.0, here.1 ∙ ap (λ (half : Float). c.target -ᶠ half) same ∙ sym before.1)

  -- the limits of a reading are by the finite readings up to and with it, and before the first of them by place 0
  pub record_second_limits : (i : ℕ) → let r = record_at (under Second c) xs i in let half = half_width_at c (record { 0 = finites xs (suc i) }) in (r.ucl ≡ c.target +ᶠ half) × (r.lcl ≡ c.target -ᶠ half)
  unfolding half_width_at
  record_second_limits i =
      let here = record_limits (under Second c) xs i in
      let width : half_width_at (under Second c) (place_at (under Second c) xs (suc i)) ≡ half_width_at c (record { 0 = finites xs (suc i) }) = ap (λ (n : ℕ). half_width_at c (record { 0 = n })) (second_counts (suc i)) in
      (here.0 ∙ ap (λ (half : Float). c.target +ᶠ half) width, here.1 ∙ ap (λ (half : Float). c.target -ᶠ half) width)

  -- the same where `analyze` answered with `k` records
  module _ (entry exit : List EwmaResult) (k : ℕ) (a : ◌≡◌ {A = Result ℕ Refusal × List EwmaResult} (Ok k, exit) (analyzed (under Second c) xs entry)) where
    -- that of the reading at `i`
    shown : (i : ℕ) → i < k → get_or exit i (blank c) ≡ record_at (under Second c) xs i
    shown i h = (analyzed_writes record_of fresh next_of (under Second c) xs (tests_of (under Second c)) entry exit k a).holds i (blank c) h

    pub analyze_gap_repeats : (i : ℕ) → suc i < k → finite (at xs (suc i)) ≡ false → let r = get_or exit (suc i) (blank c) in let before = get_or exit i (blank c) in (r.ucl ≡ before.ucl) × (r.lcl ≡ before.lcl)
    analyze_gap_repeats i h e = rw (shown (suc i) h, shown i (omega (arith, h))) (record_gap_repeats i e)

    pub analyze_second_limits : (i : ℕ) → i < k → let r = get_or exit i (blank c) in let half = half_width_at c (record { 0 = finites xs (suc i) }) in (r.ucl ≡ c.target +ᶠ half) × (r.lcl ≡ c.target -ᶠ half)
    analyze_second_limits i h = rw (shown i h) (record_second_limits i)

-- ---- the first edition: the run is the Rust's
module _ (c : Ewma) (xs : List Float) where
  -- the place counts the readings
  pub first_counts : (n : ℕ) → (place_at (under First c) xs n).0 ≡ n
  first_counts zero = refl
  first_counts (suc n) = refl

  first_states : (n : ℕ) → (after (under First c) xs n).0 ≡ state_at itself blank next_record c xs n
  unfolding step_of half_width_at
  first_states zero = refl
  first_states (suc n) = ap (λ (r : EwmaResult). next_record c r n (at xs n)) (first_states n)

  pub first_records : (n : ℕ) → records (under First c) xs n ≡ rust_records c xs n
  first_records zero = refl
  first_records (suc n) = ap₂ (λ (l : List EwmaResult) (r : EwmaResult). l ++ (r ∷ [])) (first_records n) (first_states (suc n))

  pub analyze_first : (entry : List EwmaResult) → analyzed (under First c) xs entry ≡ Outcomes.analyzed (tests_of c) (length xs) (rust_records c xs) entry
  unfolding tests_of
  analyze_first entry = let answer = admitted_as (tests_of c) (length xs) (length entry) in ap (λ (l : List EwmaResult). (answer, lent l entry)) (first_records (count_of answer))
