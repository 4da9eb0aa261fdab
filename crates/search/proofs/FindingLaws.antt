-- Laws of an admitted search: it fits, which cuts it finds, and what is left in the areas. Assumes nothing.
use Prim.Native.Nat.{ℕ, ◌+◌, ◌-◌, ◌*◌, ◌/◌, ◌≤◌, ◌<◌}
use mathlib.Core.Path.{◌≡◌, refl, sym, ap, ap₂, ◌∙◌}
use mathlib.Core.Bool.{Bool, true, false, false≢true}
use mathlib.Core.List.{List, [], ◌++◌}
use mathlib.Core.Option.{Option, none, some}
use native.Mathlib.Omega.{arith}
use native.Mathlib.Nat.{mul-le-mul}
use borrow.Author.Tests.{lt-ltb, le-ltb, le-leb, leb-true}
use lib.ListN.{length, drop, replicate, take-append-drop, length-append, length-replicate, replicate-append-replicate}
use lib.Seq.{drop_at}
use lib.Ieee.{Float}
use Rattle.logic.proofs.Laws.{clash}
use Rattle.floats.specs.Numbers.{◌≤ᶠ◌, +0}
use Rattle.refusals.specs.Limits.{max_channels, max_readings}
use Rattle.refusals.proofs.TriedLaws.{tried_passed}
use Rattle.std.specs.Prelude.{Result, Ok, Err}
use Rattle.refusals.specs.declared.Refusal.{Refusal}
use Rattle.areas.specs.Parts.{part}
use Rattle.readings.specs.declared.Channels.{Channels}
use Rattle.costs.specs.declared.CostFunction.{CostFunction}
use Rattle.costs.specs.declared.Penalty.{Penalty}
use Rattle.costs.specs.declared.CostFunction.TheVariants.{L2, Normal}
use Rattle.costs.specs.Penalties.{penalty_of, bic_penalty}
use Rattle.noise.specs.Noise.{noise_sum_to, has_room, Lent}
use Rattle.areas.specs.Cleared.{Cleared}
use Rattle.areas.proofs.ClearedLaws.{cleared_part, cleared_whole}
use Rattle.search_rules.specs.Room.{series_fits, room_fits, search_fits}
use Rattle.search_rules.specs.Predecessors.{Sound}
use Rattle.search_rules.specs.Inequality.{predecessors, price}
use Rattle.search_rules.proofs.InequalityLaws.{predecessors_sound, predecessors_long}
use Rattle.inequality.specs.Pruned.{Pruned}
use Rattle.search_rules.specs.Functional.{Task, functional}
use Rattle.search_rules.specs.Partitioned.{fits_task, slots_suffice, indices_after, Partitioned}
use Rattle.search_rules.proofs.FunctionalLaws.{functional_sound, functional_long}
use Rattle.backtrack.specs.Cuts.{cuts_of}
use Rattle.backtrack.proofs.CutLaws.{front_count, room_front, room_rest}
use Rattle.search_rules.specs.Limits.{functional_channels, slot_floats}
use Rattle.search_answer.specs.Tests.{admitted_as}
use Rattle.search_answer.specs.Inner.Admitted.{Admitted}
use Rattle.search_answer.specs.Search.{penalty_value, pruned_cuts, functional_cuts, takes_functional, cuts_by, cuts_with, cuts_found}
use Rattle.search_answer.specs.Outcome.{Areas, areas, found_answer, cuts_left, zeros, found_outcome, unchanged, outcome_by, tests_of, found_in, detected}
use Rattle.search.specs.Inner.Held.{asks_noise, CutBack}
use Rattle.search_answer.proofs.AdmissionLaws.{answered_passed, answered_channels, refused_tried}

-- ---- an admitted search, of `m` readings or more, fits
pub admitted_fits_search : {run n k m cuts floats indices : ℕ} → Admitted run n k m cuts floats indices → m ≤ n → search_fits run n k m floats indices ≡ true
unfolding search_fits series_fits room_fits
admitted_fits_search {run} {n} {k} {m} {cuts} {floats} {indices} a h =
    rw (le-leb k max_channels a.few, le-leb n max_readings a.short, le-leb (k * n) run a.readings, le-leb 1 m (omega (arith, a.least)), le-leb m n h, le-leb ((2 * k + 2) * (n + 1)) floats a.floats_room, le-leb (3 * (n + 1)) indices a.indices_room)

admitted_fits_task : {run n k m cuts floats indices : ℕ} → Admitted run n k m cuts floats indices → m ≤ n → 1 ≤ k → k ≤ functional_channels → fits_task run n k m floats indices ≡ true
unfolding fits_task
admitted_fits_task {run} {n} {k} {m} {cuts} {floats} {indices} a h l g = rw (le-leb 1 k l, le-leb k functional_channels g, admitted_fits_search a h)

-- ---- the penalty
noise_unread : (penalty : Penalty) (cost : CostFunction) (n k : ℕ) (v w : Float) → asks_noise penalty cost ≡ false → penalty_of penalty cost n k v ≡ penalty_of penalty cost n k w
unfolding penalty_of bic_penalty asks_noise
noise_unread (Penalty.Custom x) cost n k v w e = refl
noise_unread Penalty.Bic L2 n k v w e = absurd (clash cc)
noise_unread Penalty.Bic Normal n k v w e = refl

-- the noise has room in the last `n + 1` work floats
noise_room : (n k floats : ℕ) → (2 * k + 2) * (n + 1) ≤ floats → has_room floats n ((2 * k + 1) * (n + 1)) ≡ true
unfolding has_room
noise_room n k floats h = le-leb _ floats (omega (arith, split))
  where
    split : (2 * k + 2) * (n + 1) ≡ (2 * k + 1) * (n + 1) + (n + 1)
    split = omega arith

noise_found : {value r : Float} {n place : ℕ} {before after : List Float} → Lent value n place before after r → has_room (length before) n place ≡ true → r ≡ value
noise_found l e = l.answer ∙ rw e

pub penalty_found : (cost : CostFunction) (penalty : Penalty) (run : List Float) (n k : ℕ) {noise r : Float} {before after : List Float} → (2 * k + 2) * (n + 1) ≤ length before
    → Lent (noise_sum_to run n k) n ((2 * k + 1) * (n + 1)) before after noise → r ≡ penalty_of penalty cost n k noise → r ≡ penalty_value cost penalty run n k
unfolding penalty_value
penalty_found cost penalty run n k {before = before} h l e = e ∙ ap (λ (v : Float). penalty_of penalty cost n k v) (noise_found l (noise_room n k (length before) h))

pub penalty_plain : (cost : CostFunction) (penalty : Penalty) (run : List Float) (n k : ℕ) (noise : Float) {r : Float} → asks_noise penalty cost ≡ false → r ≡ penalty_of penalty cost n k noise → r ≡ penalty_value cost penalty run n k
unfolding penalty_value
penalty_plain cost penalty run n k noise e f = f ∙ noise_unread penalty cost n k noise (noise_sum_to run n k) e

-- no product of it wraps
pub noise_place_small : (n k : ℕ) → k ≤ 8 → n ≤ 4096 → (2 * k + 1) * (n + 1) ≤ 69649
noise_place_small n k h l = mul-le-mul {n₁ = 2 * k + 1} {m₁ = n + 1} {n₂ = 17} {m₂ = 4097} (omega arith) (omega arith)

-- ---- which cuts
module _ (cost : CostFunction) (penalty : Penalty) (m : ℕ) (run : List Float) (n k slots : ℕ) where
  pub short_found : n / 2 < m → cuts_found cost penalty m run n k slots ≡ some []
  unfolding cuts_found
  short_found h = rw (cuts_found, lt-ltb n (2 * m) (omega arith))

  long_found : m ≤ n / 2 → cuts_found cost penalty m run n k slots ≡ cuts_with cost run n k m (penalty_value cost penalty run n k) slots
  unfolding cuts_found
  long_found h = rw (cuts_found, le-ltb n (2 * m) (omega arith))

  pub free_found : m ≤ n / 2 → penalty_value cost penalty run n k ≤ᶠ +0 ≡ true → cuts_found cost penalty m run n k slots ≡ some []
  unfolding cuts_with
  free_found h e = long_found h ∙ rw (cuts_with, e)

  pub functional_found : (value : Float) → m ≤ n / 2 → value ≡ penalty_value cost penalty run n k → value ≤ᶠ +0 ≡ false → takes_functional cost k ≡ true
      → cuts_found cost penalty m run n k slots ≡ functional_cuts (record { run = run; n = n; channels = k; m = m; penalty = value }) slots
  unfolding cuts_with cuts_by
  functional_found value h e f g = long_found h ∙ ap (λ (v : Float). cuts_with cost run n k m v slots) (sym e) ∙ rw (cuts_with, f, cuts_by, g)

  pub pruned_found : (value : Float) → m ≤ n / 2 → value ≡ penalty_value cost penalty run n k → value ≤ᶠ +0 ≡ false → takes_functional cost k ≡ false
      → cuts_found cost penalty m run n k slots ≡ some (pruned_cuts cost run n k m value)
  unfolding cuts_with cuts_by
  pruned_found value h e f g = long_found h ∙ ap (λ (v : Float). cuts_with cost run n k m v slots) (sym e) ∙ rw (cuts_with, f, cuts_by, g)

-- the functional search takes one or two channels
pub functional_few : (cost : CostFunction) (k : ℕ) → takes_functional cost k ≡ true → k ≤ functional_channels
unfolding takes_functional
functional_few L2 k e = leb-true k functional_channels e
functional_few Normal k e = absurd (false≢true e)

-- ---- what is left
-- the outcome by its parts
outcome_is : (found : Option (List ℕ)) (before : Areas) {cuts' : List ℕ} {floats' : List Float} {indices' : List ℕ} {pool' : List Float} {r : Result ℕ Refusal}
    → r ≡ found_answer found → cuts' ≡ cuts_left found before.cuts → floats' ≡ zeros +0 before.floats → indices' ≡ zeros 0 before.indices → pool' ≡ zeros +0 before.pool
    → ◌≡◌ {A = Result ℕ Refusal × Areas} (r, areas cuts' floats' indices' pool') (found_outcome found before)
unfolding found_outcome
outcome_is found before e c f i q = rw (e, c, f, i, q) refl

pub left_none : (before : Areas) {floats' : List Float} {indices' : List ℕ} {pool' : List Float} → floats' ≡ zeros +0 before.floats → indices' ≡ zeros 0 before.indices → pool' ≡ zeros +0 before.pool
    → ◌≡◌ {A = Result ℕ Refusal × Areas} (Ok 0, areas before.cuts floats' indices' pool') (found_outcome (some []) before)
left_none before f i q = outcome_is (some []) before refl refl f i q

pub left_found : {found other : Option (List ℕ)} (before : Areas) {o : Result ℕ Refusal × Areas} → other ≡ found → o ≡ found_outcome found before → o ≡ found_outcome other before
left_found before e f = f ∙ sym (ap (λ (x : Option (List ℕ)). found_outcome x before) e)

-- the work floats count by their number alone
pub left_again : (found : Option (List ℕ)) (cuts : List ℕ) (between floats : List Float) (indices : List ℕ) (pool : List Float) {o : Result ℕ Refusal × Areas}
    → length between ≡ length floats → o ≡ found_outcome found (areas cuts between indices pool) → o ≡ found_outcome found (areas cuts floats indices pool)
unfolding found_outcome
left_again found cuts between floats indices pool e f = f ∙ ap (λ (k : ℕ). (found_answer found, areas (cuts_left found cuts) (replicate k +0) (zeros 0 indices) (zeros +0 pool))) e

-- the predecessors are cleared, and what stands behind them is zero
front_cleared : (last : List ℕ) (size n : ℕ) (ix ix' : List ℕ) → ix ≡ last ++ replicate (size - (n + 1)) 0 → length last ≡ n + 1 → n + 1 ≤ size → Cleared 0 ix ix' 0 (n + 1) → ix' ≡ replicate size 0
unfolding part
front_cleared last size n ix ix' e l h c =
    let long : length ix ≡ size = ap length e ∙ length-append last (replicate (size - (n + 1)) 0) ∙ rw (l, length-replicate) (omega arith) in
    let from : 0 + (n + 1) ≡ n + 1 = omega arith in
    let back : drop (n + 1) ix' ≡ replicate (size - (n + 1)) 0 = rw from at c.frame.back ∙ ap (drop (n + 1)) e ∙ drop_at last (replicate (size - (n + 1)) 0) (n + 1) l in
    let whole : n + 1 + (size - (n + 1)) ≡ size = omega arith in
    sym (take-append-drop (n + 1) ix')
    ∙ ap₂ ◌++◌ (cleared_part c (omega arith)) back
    ∙ replicate-append-replicate (n + 1) (size - (n + 1)) 0
    ∙ ap (λ (k : ℕ). replicate k 0) whole

module _ {n m k run : ℕ} (before : Areas) {cuts' : List ℕ} {floats' : List Float} {ix ix' : List ℕ} {pool' : List Float} {r : ℕ} where
  left_cuts : (last : List ℕ) → CutBack n before.cuts cuts' ix ix' r → Sound m last → length last ≡ n + 1 → ix ≡ last ++ replicate (length before.indices - (n + 1)) 0
      → Admitted run n k m (length before.cuts) (length before.floats) (length before.indices) → floats' ≡ zeros +0 before.floats → pool' ≡ zeros +0 before.pool
      → ◌≡◌ {A = Result ℕ Refusal × Areas} (Ok r, areas cuts' floats' ix' pool') (found_outcome (some (cuts_of last n)) before)
  left_cuts last b s l e a f q =
      let rest : List ℕ = replicate (length before.indices - (n + 1)) 0 in
      let back = (rw e at b).back in
      let few : n < length last = omega arith in
      let count = front_count last rest back few in
      outcome_is (some (cuts_of last n)) before
      (ap Ok count)
      (sym (take-append-drop r cuts')
      ∙ ap₂ ◌++◌ (room_front last rest back s a.least few a.cuts_room) (room_rest last rest back s a.least few a.cuts_room)
      ∙ ap (λ (c : ℕ). cuts_of last n ++ drop c before.cuts) count)
      f
      (front_cleared last (length before.indices) n ix ix' e l (omega (arith, a.indices_room)) b.cleared)
      q

-- ---- by the two searches
module _ (task : Task) (before : Areas) {floats' : List Float} {ix : List ℕ} {pool' : List Float} {b : Bool}
    (a : Admitted (length task.run) task.n task.channels task.m (length before.cuts) (length before.floats) (length before.indices)) (h : task.m ≤ task.n) (l : 1 ≤ task.channels) (g : task.channels ≤ functional_channels)
    (q : Partitioned task before.floats floats' before.indices ix before.pool pool' b) where
  pub functional_left : {cuts' ix' : List ℕ} {r : ℕ} → b ≡ true → CutBack task.n before.cuts cuts' ix ix' r
      → ◌≡◌ {A = Result ℕ Refusal × Areas} (Ok r, areas cuts' floats' ix' pool') (found_outcome (functional_cuts task (length before.pool / slot_floats)) before)
  unfolding functional_cuts slots_suffice indices_after
  functional_left e c =
      let fit = admitted_fits_task a h l g in
      let enough = sym (q.answer fit) ∙ e in
      let found : ix ≡ (functional task).last ++ replicate (length before.indices - (task.n + 1)) 0 = q.found fit ∙ rw enough in
      rw (functional_cuts, enough) (left_cuts before (functional task).last c (functional_sound task h) (functional_long task h) found a (q.floats_cleared fit) (q.pool_cleared fit))

  pub functional_nine : b ≡ false → ◌≡◌ {A = Result ℕ Refusal × Areas} (Err Refusal.Pool, areas before.cuts floats' ix pool') (found_outcome (functional_cuts task (length before.pool / slot_floats)) before)
  unfolding functional_cuts slots_suffice indices_after
  functional_nine e =
      let fit = admitted_fits_task a h l g in
      let few = sym (q.answer fit) ∙ e in
      let empty : ix ≡ zeros 0 before.indices = q.found fit ∙ rw few in
      rw (functional_cuts, few) (outcome_is none before refl refl (q.floats_cleared fit) empty (q.pool_cleared fit))

pub pruned_left : {cost : CostFunction} {penalty : Float} {run : List Float} {n k m : ℕ} (before : Areas) {cuts' : List ℕ} {floats' : List Float} {ix ix' : List ℕ} {pool' : List Float} {r : ℕ}
    → Admitted (length run) n k m (length before.cuts) (length before.floats) (length before.indices) → m ≤ n → Pruned cost penalty run n k m before.floats floats' before.indices ix
    → Cleared +0 before.pool pool' 0 (length before.pool) → CutBack n before.cuts cuts' ix ix' r
    → ◌≡◌ {A = Result ℕ Refusal × Areas} (Ok r, areas cuts' floats' ix' pool') (found_outcome (some (pruned_cuts cost run n k m penalty)) before)
unfolding pruned_cuts
pruned_left {cost} {penalty} {run} {n} {k} {m} before a h q z c =
    let fit = admitted_fits_search a h in
    let some : 0 < m = omega (arith, a.least) in
    left_cuts before (predecessors (price cost run n k) penalty m n) c (predecessors_sound _ penalty m n some h) (predecessors_long _ penalty m n some h) (q.found fit) a (q.cleared fit) (cleared_whole z)

-- ---- with the tests before 9
module _ (strict : Bool) (cost : CostFunction) (penalty : Penalty) (m : ℕ) (run : List Float) (lengths : List ℕ) (before : Areas) where
  pub detected_refused : (r : Refusal) → admitted_as strict penalty m run lengths (length before.cuts) (length before.floats) (length before.indices) ≡ Err r
      → ◌≡◌ {A = Result ℕ Refusal × Areas} (Err r, before) (detected strict cost penalty m run lengths before)
  unfolding admitted_as outcome_by
  detected_refused r e = refused_tried (unchanged before) (tests_of strict penalty m run lengths before) (found_outcome (found_in cost penalty m run lengths before) before) _ e

  pub detected_found : (c : Channels) (o : Result ℕ Refusal × Areas) → admitted_as strict penalty m run lengths (length before.cuts) (length before.floats) (length before.indices) ≡ Ok c
      → o ≡ found_outcome (cuts_found cost penalty m run c.length c.count (length before.pool / slot_floats)) before → o ≡ detected strict cost penalty m run lengths before
  unfolding admitted_as outcome_by
  detected_found c o e f =
      let tests = tests_of strict penalty m run lengths before in
      let same = answered_channels tests lengths c e in
      (rw (← same.0, ← same.1) at f) ∙ sym (tried_passed (unchanged before) tests (found_outcome (found_in cost penalty m run lengths before) before) (answered_passed tests _ e))
