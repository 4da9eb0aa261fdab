-- Laws of the whole search: how the areas begin, what is left where the search fits and where it does not, and that one outcome meets `Partitioned`. Assumes nothing.
use Prim.Native.Nat.{ℕ, zero, suc, ◌+◌, ◌-◌, ◌/◌, ◌≤◌, ◌<◌}
use mathlib.Core.Bool.{Bool, true, false, cond, true≢false, false≢true}
use mathlib.Core.Path.{◌≡◌, refl, sym, ap, ◌∙◌}
use mathlib.Core.List.{List, [], ◌∷◌, ◌++◌}
use native.Mathlib.Omega.{arith}
use borrow.Author.Tests.{leb-true}
use lib.Dec.{leb}
use lib.Seq.{get_or-set_same}
use lib.ListN.{length, get_or, set, replicate, length-set, length-replicate}
use lib.Ieee.{Float, neg}
use Rattle.std.proofs.lemmas.List.{take_all, take-append-le}
use Rattle.logic.proofs.Laws.{both}
use Rattle.floats.specs.Numbers.{+0}
use Rattle.areas.specs.Parts.{part, tab}
use Rattle.areas.specs.Cleared.{Cleared}
use Rattle.areas.proofs.ClearedLaws.{cleared_whole, cleared_tail}
use Rattle.search_rules.specs.Room.{search_fits}
use Rattle.search_rules.proofs.RoomLaws.{fits_room}
use Rattle.candidate.specs.declared.Candidate.{Candidate}
use Rattle.candidate.specs.Balls.{balls_at}
use Rattle.functional.specs.declared.Plan.{Plan}
use Rattle.search_rules.specs.Functional.{Task, range_box, state_after}
use Rattle.search_rules.specs.Partitioned.{fits_task, task_fits, slots_suffice, indices_after, Partitioned}
use Rattle.functional.specs.Inner.Held.{Sound, task, Slots, slot_at, Whole, box_at, ball_floats, put_box, balls_in, Entries, word_at, lived_at, lived, BallsOf, Sane, Holds, Searched, Ran}
use Rattle.functional.proofs.SlotLaws.{box_put}
use Rattle.functional.proofs.BallLaws.{balls_none}
use Rattle.functional.proofs.MarkLaws.{few_unmarked}
use Rattle.functional.proofs.BoxLaws.{range_wide, box_by_numbers}
use Rattle.search_rules.proofs.PeakLaws.{slots_too_few}

-- ---- how the areas begin
first_living : (channels : ℕ) (slots : Slots) (ix : Entries) (x : Candidate) → get_or ix 0 [] ≡ 0 ∷ 0 ∷ [] → box_at (slot_at slots 0) ≡ x → lived channels slots ix 1 ≡ record { tau = 0; box = x; losing = [] } ∷ []
unfolding lived lived_at balls_in tab balls_at
first_living channels slots ix x p r = rw (p, r) refl

first_sane : (channels : ℕ) (slots : Slots) (ix : Entries) → word_at ix 0 ≡ 0 → Sane channels slots ix 1
unfolding balls_in balls_at tab
first_sane channels slots ix e = record { each = λ j h. only j h }
  where
    only : (j : ℕ) → j < 1 → BallsOf channels slots ix j
    only zero h = rw e (record { balls = balls_none channels (ball_floats (slot_at slots 0)); uncut = λ m. absurd (few_unmarked 0 (omega arith) m) })
    only (suc j) h = absurd (none h)
      where
        none : suc j < 1 → ⊥
        none l = omega arith

pub begun : (q : Plan) (xs : List Float) (last : List ℕ) (ix : Entries) (slots : Slots) (slot : List Float) (v : Float) → Sound q → Whole slots → 1 ≤ length slots → q.n + 1 ≤ length ix
    → xs ≡ replicate (q.n + 1) +0 → last ≡ replicate (q.n + 1) 0 → v ≡ neg q.penalty → slot ≡ put_box (slot_at slots 0) q.range → Holds q (set xs 0 v) last (set ix 0 (0 ∷ 0 ∷ [])) (set slots 0 slot) 1 q.m
unfolding state_after
begun q xs last ix slots slot v sound whole some room f l g e =
    let start : q.m - q.m ≡ 0 = omega arith in
    let long : length (set slots 0 slot) ≡ length slots = length-set slots 0 slot in
    let entry : get_or (set ix 0 (0 ∷ 0 ∷ [])) 0 [] ≡ 0 ∷ 0 ∷ [] = get_or-set_same ix 0 (0 ∷ 0 ∷ []) [] (omega arith) in
    let here : slot_at (set slots 0 slot) 0 ≡ slot = get_or-set_same slots 0 slot [] some in
    let box : box_at (slot_at (set slots 0 slot) 0) ≡ range_box (task q) = ap box_at (here ∙ e) ∙ box_put (slot_at slots 0) q.range (whole 0 some) ∙ box_by_numbers q.range (rw sound.range (range_wide (task q))) ∙ sound.range in
    record {
      sound = sound;
      long_f = length-set xs 0 v ∙ ap length f ∙ length-replicate (q.n + 1) +0;
      long_last = ap length l ∙ length-replicate (q.n + 1) 0;
      room = rw (length-set ix 0 (0 ∷ 0 ∷ [])) room;
      sane = first_sane q.channels (set slots 0 slot) _ (ap (λ (k : List ℕ). get_or k 1 0) entry);
      from = omega arith;
      few = rw long some;
      fewer = omega arith;
      f = rw (start, f, g) refl;
      last = rw (start, l) refl;
      living = rw start (first_living q.channels (set slots 0 slot) _ (range_box (task q)) entry box);
      peak = rw (start, long) some;
    }

-- ---- what is left
-- no slot for the first candidate
pub no_slot : (k : Task) (slots : ℕ) (ix : List ℕ) → slots < 1 → Ran k slots ix false
unfolding state_after
no_slot k slots ix h = record { answer = sym (slots_too_few k 0 slots (omega arith) h); last = λ e. absurd (false≢true e) }

-- the front of what two parts of the indices make
pub front_part : (xs ys : List ℕ) (n : ℕ) → length xs ≡ n → part (xs ++ ys) 0 n ≡ xs
unfolding part
front_part xs ys n e = take-append-le n xs ys (omega arith) ∙ take_all n xs (omega arith)

pub ran : {q : Plan} {last : List ℕ} {slots size : ℕ} {ix : List ℕ} {r : Bool} → Searched q last slots r → slots ≡ size → part ix 0 (q.n + 1) ≡ last → Ran (task q) size ix r
ran s e f = record { answer = rw (← e) s.answer; last = λ t. f ∙ s.last t }

pub fit_one : (run n k m lf li : ℕ) → fits_task run n k m lf li ≡ true → 1 ≤ k
unfolding fits_task
fit_one run n k m lf li e = leb-true 1 k (both (leb 1 k) _ e).0

pub fit_two : (run n k m lf li : ℕ) → fits_task run n k m lf li ≡ true → k ≤ 2
unfolding fits_task
fit_two run n k m lf li e = leb-true k 2 (both (leb k 2) _ (both (leb 1 k) _ e).1).0

pub fit_search : (run n k m lf li : ℕ) → fits_task run n k m lf li ≡ true → search_fits run n k m lf li ≡ true
unfolding fits_task
fit_search run n k m lf li e = (both (leb k 2) _ (both (leb 1 k) _ e).1).1

-- the indices behind the predecessors, or all of them
left_indices : (k : Task) (pool : ℕ) (ix iy : List ℕ) (r : Bool) (place size : ℕ) → Ran k (pool / 200) ix r → Cleared 0 ix iy place size → place ≡ cond r (k.n + 1) 0 → size ≡ length ix → k.n + 1 ≤ length ix
    → iy ≡ indices_after k pool (length ix)
unfolding indices_after slots_suffice part
left_indices k pool ix iy true place size s c e f h =
    cleared_tail c (omega arith) (omega arith) ∙ (rw (e, ← s.answer) (ap (λ (l : List ℕ). l ++ replicate (length ix - (k.n + 1)) 0) (s.last refl)))
left_indices k pool ix iy false place size s c e f h =
    rw (← s.answer) (cleared_whole (rw (e, f) at c))

pub partitioned : (k : Task) (xs xs₁ xs₂ : List Float) (ix ix₁ ix₂ : List ℕ) (pool pool₁ pool₂ : List Float) (r : Bool) (n₁ n₂ place n₃ : ℕ) → task_fits k (length xs) (length ix) ≡ true
    → Ran k (length pool / 200) ix₁ r → length xs₁ ≡ length xs → length ix₁ ≡ length ix → length pool₁ ≡ length pool → Cleared +0 xs₁ xs₂ 0 n₁ → n₁ ≡ length xs₁ → Cleared +0 pool₁ pool₂ 0 n₂ → n₂ ≡ length pool₁
    → Cleared 0 ix₁ ix₂ place n₃ → place ≡ cond r (k.n + 1) 0 → n₃ ≡ length ix₁ → Partitioned k xs xs₂ ix ix₂ pool pool₂ r
unfolding slots_suffice
partitioned k xs xs₁ xs₂ ix ix₁ ix₂ pool pool₁ pool₂ r n₁ n₂ place n₃ e s a b c fs p ps q is u v =
    let room = fits_room (length k.run) k.n k.channels k.m (length xs) (length ix) (fit_search (length k.run) k.n k.channels k.m (length xs) (length ix) e) in
    record {
      answer = λ _. s.answer;
      found = λ _. left_indices k (length pool) ix₁ ix₂ r place n₃ s is u v (omega (arith, room.indices, b)) ∙ ap (indices_after k (length pool)) b;
      floats_cleared = λ _. cleared_whole (rw p at fs) ∙ ap (λ (n : ℕ). replicate n +0) a;
      pool_cleared = λ _. cleared_whole (rw q at ps) ∙ ap (λ (n : ℕ). replicate n +0) c;
      unfit = λ f. absurd (true≢false (sym e ∙ f));
      indices_kept = λ f. absurd (true≢false (sym e ∙ f));
      floats_kept = λ f. absurd (true≢false (sym e ∙ f));
      pool_kept = λ f. absurd (true≢false (sym e ∙ f));
    }

pub unfit : {k : Task} {xs : List Float} {ix : List ℕ} {pool : List Float} → task_fits k (length xs) (length ix) ≡ false → Partitioned k xs xs ix ix pool pool false
unfit e =
    record {
      answer = λ f. absurd (true≢false (sym f ∙ e));
      found = λ f. absurd (true≢false (sym f ∙ e));
      floats_cleared = λ f. absurd (true≢false (sym f ∙ e));
      pool_cleared = λ f. absurd (true≢false (sym f ∙ e));
      unfit = λ _. refl;
      indices_kept = λ _. refl;
      floats_kept = λ _. refl;
      pool_kept = λ _. refl;
    }

-- ---- one outcome
module _ {k : Task} {xs ys zs : List Float} {ix iy iz : List ℕ} {pool y z : List Float} {r s : Bool} (p : Partitioned k xs ys ix iy pool y r) (q : Partitioned k xs zs ix iz pool z s) where
  by_fit : {A : Type 0} {a b : A} → (task_fits k (length xs) (length ix) ≡ true → a ≡ b) → (task_fits k (length xs) (length ix) ≡ false → a ≡ b) → a ≡ b
  by_fit {A} {a} {b} f g = side (task_fits k (length xs) (length ix)) refl
    where
      side : (t : Bool) → task_fits k (length xs) (length ix) ≡ t → a ≡ b
      side true e = f e
      side false e = g e

  pub answer_once : r ≡ s
  answer_once = by_fit (λ e. p.answer e ∙ sym (q.answer e)) (λ e. p.unfit e ∙ sym (q.unfit e))

  pub indices_once : iy ≡ iz
  indices_once = by_fit (λ e. p.found e ∙ sym (q.found e)) (λ e. p.indices_kept e ∙ sym (q.indices_kept e))

  pub floats_once : ys ≡ zs
  floats_once = by_fit (λ e. p.floats_cleared e ∙ sym (q.floats_cleared e)) (λ e. p.floats_kept e ∙ sym (q.floats_kept e))

  pub pool_once : y ≡ z
  pool_once = by_fit (λ e. p.pool_cleared e ∙ sym (q.pool_cleared e)) (λ e. p.pool_kept e ∙ sym (q.pool_kept e))
