-- Laws of the words of the candidates: how many balls a word says, when it is marked, and the words of narrowed boxes. Assumes nothing.
use Prim.Native.Nat.{ℕ, suc, ◌+◌, ◌%◌, ◌≤◌, ◌<◌}
use mathlib.Core.Bool.{Bool, true, false, cond, false≢true}
use mathlib.Core.Path.{◌≡◌, refl, sym, ap, ◌∙◌, subst}
use mathlib.Core.List.{List, [], ◌∷◌}
use mathlib.Core.Logic.{⊎_elim}
use native.Mathlib.Omega.{arith}
use native.Mathlib.Nat.{mod-eq_of_lt, le_of_suc-le-suc, eq-or-lt_of_le}
use borrow.Author.Tests.{le-ltb, eqb-true, eqb-false}
use lib.Seq.{get_or-set_same, get_or-set_other}
use lib.Dec.{eqb}
use lib.ListN.{length, get_or, set, length-set}
use lib.Ieee.{Float}
use Rattle.candidate.specs.declared.Candidate.{Candidate}
use Rattle.candidate_balls.specs.declared.Ball.{Ball}
use Rattle.candidate.specs.Boxes.{restrict}
use Rattle.search_rules.specs.declared.Facing.{Facing}
use Rattle.search_rules.specs.Functional.{outer_ball}
use Rattle.functional.specs.Inner.Held.{Slots, slot_at, Entries, tau_at, word_at, box_at, facing_at, balls_in, is_marked, SameBox, narrowed_at, Remark, Remarked, Wide}
use Rattle.functional.proofs.BoxLaws.{box_by_numbers, box_wide, restrict_wide}

-- ---- one word
pub unmarked_balls : (word : ℕ) → word ≤ 127 → balls_in word ≡ word
unfolding balls_in
unmarked_balls word h = mod-eq_of_lt (omega arith)

low_unmarked : (word : ℕ) → word ≤ 127 → is_marked word ≡ false
unfolding is_marked
low_unmarked word h = le-ltb 127 word h

pub few_unmarked : (n : ℕ) → n ≤ 64 → is_marked n ≡ true → ⊥
few_unmarked n h e = false≢true (sym (low_unmarked n (omega arith)) ∙ e)

pub marked_balls : (n : ℕ) (uncut : Bool) → n ≤ 64 → balls_in (cond uncut (n + 128) n) ≡ n
unfolding balls_in
marked_balls n true h = omega arith
marked_balls n false h = omega arith

pub remark : (channels : ℕ) (slot : List Float) (word : ℕ) (stayed : Bool) → (stayed ≡ true → narrowed_at channels slot ≡ box_at slot) → Remark channels slot word (cond stayed word (balls_in word))
unfolding balls_in
remark channels slot word true f = record { balls = refl; stays = λ e. (e, f refl) }
remark channels slot word false f = record { balls = omega arith; stays = λ e. absurd (false≢true (sym (low_unmarked (word % 128) (omega arith)) ∙ e)) }

-- ---- boxes
pub same_boxes : (x y : Candidate) → Wide x → Wide y → SameBox x y → x ≡ y
same_boxes x y v w s = sym (box_by_numbers x v) ∙ (rw (s.low, s.high, s.low_beside, s.high_beside) refl) ∙ box_by_numbers y w

-- ---- a box as `restrict_box` narrows it
module _ (channels : ℕ) (slot : List Float) (x : Facing) (ball : Ball) (before after : Candidate) (ex : x ≡ facing_at slot) (eb : ball ≡ outer_ball x) (ec : before ≡ box_at slot)
    (ea : after ≡ restrict channels ball before) where
  pub narrowed_is : after ≡ narrowed_at channels slot
  unfolding narrowed_at
  narrowed_is = ea ∙ (rw (eb, ex, ec) refl)

  -- one with the numbers that it had is what it was
  pub narrowed_stays : SameBox after before → narrowed_at channels slot ≡ box_at slot
  narrowed_stays s =
      let w : Wide before = rw ec (box_wide slot) in
      sym narrowed_is ∙ same_boxes after before (rw ea (restrict_wide channels ball before w)) w s ∙ ec

-- ---- all words
pub remarked_all : {channels : ℕ} {slots : Slots} {x y : Entries} {j n : ℕ} → Remarked channels slots x y j → n ≤ j → j ≤ n → Remarked channels slots x y n
remarked_all {channels} {slots} {x} {y} {j} {n} r a b = let e : j ≡ n = omega arith in subst (λ (k : ℕ). Remarked channels slots x y k) e r

pub remarked_more : {channels : ℕ} {slots : Slots} {x y z : Entries} {j tau word word' : ℕ} → Remarked channels slots x y j → j < length y → tau ≡ tau_at y j → word ≡ word_at y j → z ≡ set y j (tau ∷ word' ∷ [])
    → Remark channels (slot_at slots j) word word' → Remarked channels slots x z (j + 1)
remarked_more {channels} {slots} {x} {y} {z} {j} {tau} {word} {word'} r h t w e k =
    record {
      done = λ i g. ⊎_elim (λ q. rw q (rw here (subst (λ (v : ℕ). Remark channels (slot_at slots j) v word') (w ∙ ap (λ (l : List ℕ). get_or l 1 0) (r.rest j (omega arith))) k))) (λ m. rw (other i (omega arith)) (r.done i m)) (eq-or-lt_of_le (le_of_suc-le-suc (next g)));
      taus = λ i. side i (eqb i j) refl;
      rest = λ i g. other i (omega arith) ∙ r.rest i (omega arith);
      long = rw e (length-set y j (tau ∷ word' ∷ [])) ∙ r.long;
    }
  where
    next : {i : ℕ} → i < j + 1 → i < suc j
    next m = omega arith

    here : get_or z j [] ≡ tau ∷ word' ∷ []
    here = rw e (get_or-set_same y j (tau ∷ word' ∷ []) [] h)

    other : (i : ℕ) → (i ≡ j → ⊥) → get_or z i [] ≡ get_or y i []
    other i ne = rw e (get_or-set_other y j i (tau ∷ word' ∷ []) [] ne)

    side : (i : ℕ) (b : Bool) → eqb i j ≡ b → tau_at z i ≡ tau_at x i
    side i true q = rw (eqb-true i j q) (ap (λ (l : List ℕ). get_or l 0 0) here ∙ t ∙ r.taus j)
    side i false q = ap (λ (l : List ℕ). get_or l 0 0) (other i (eqb-false i j q)) ∙ r.taus i
