-- Laws of the living candidates in their slots: one stored, one more looked at, and those that stay as the definition says. Assumes nothing.
use Rattle.std.proofs.Common.{◌≡◌, ℕ, suc, ◌+◌, ◌≤◌, ◌<◌, Bool, true, false, cond, List, [], ◌∷◌, ◌++◌, length, get_or, take, drop, set, length-set, refl, sym, ap, ◌∙◌, subst, arith, true≢false, not-suc-le-zero, add-one, length-drop, get_or-set_same, get_or-set_other, ap₂}
use Rattle.std.proofs.lemmas.List.{take_all, set-get_or, set-append_left, get_or-append-add}
use native.Mathlib.Nat.{le_of_suc-le-suc, eq-or-lt_of_le}
use mathlib.Core.Logic.{⊎_elim}
use lib.ListN.{get_or-append}
use lib.Ieee.{Float}
use Rattle.areas.specs.Parts.{tab}
use Rattle.areas.proofs.PartLaws.{tab_same, tab_at, tab_more}
use Rattle.candidate.specs.declared.Candidate.{Candidate}
use Rattle.candidate_balls.specs.declared.Ball.{Ball}
use Rattle.candidate.specs.Balls.{held_at, balls_at}
use Rattle.candidate.specs.Cuts.{cut_losing, cut_in}
use Rattle.candidate.specs.Dominated.{is_dominated}
use Rattle.search_rules.specs.Functional.{Living, living_at, cut_back, joined_by}
use Rattle.functional.specs.Inner.Held.{Slots, slot_at, Whole, box_at, ball_floats, put_box, Balled, Brought, Balls, balls_in, is_marked, Entries, tau_at, word_at, lived_at, lived, Kept, BallsOf, Sane, SameBox, Stored, Settled, survivors_to, Narrowed, Wide}
use Rattle.functional.proofs.SlotLaws.{box_put, balls_beside_box}
use Rattle.functional.proofs.BallLaws.{balls_kept, balls_cut}
use Rattle.functional.proofs.BoxLaws.{box_by_numbers, cut_wide, box_wide}
use Rattle.functional.proofs.MarkLaws.{unmarked_balls, few_unmarked, marked_balls, same_boxes}

-- ---- balls brought to a slot
pub brought_here : (slots : Slots) (to j count : ℕ) → to ≡ j → Brought slots slots to j count
brought_here slots to j count e =
    record { slot = slot_at slots to; balls = record { balls = λ i h. rw e refl; box = refl; long = refl }; put = sym (set-get_or slots to []) }

-- the balls of a slot as a slice of it
pub balls_slice : (slot : List Float) → length slot ≡ 200 → take 192 (drop 8 slot) ≡ ball_floats slot
balls_slice slot e = take_all 192 (drop 8 slot) (rw (length-drop 8 slot) (omega arith))

pub brought_before : (slots front back : Slots) {slot from : List Float} (to j count : ℕ) → Whole slots → j < length slots → slots ≡ front ++ back → length front ≡ j → to < j → from ≡ take 192 (drop 8 (slot_at back 0))
    → Balled (slot_at front to) slot from count → Brought slots (set front to slot ++ back) to j count
brought_before slots front back {slot} {from} to j count whole room e long h part b =
    let within : to < length front = omega arith in
    let here : j ≡ length front + 0 = omega arith in
    let first : slot_at slots to ≡ slot_at front to = ap (λ (s : Slots). slot_at s to) e ∙ get_or-append front back [] to within in
    let later : slot_at slots j ≡ slot_at back 0 = ap (λ (s : Slots). slot_at s j) e ∙ ap (slot_at (front ++ back)) here ∙ get_or-append-add front back 0 [] in
    let same : from ≡ ball_floats (slot_at slots j) = part ∙ ap (λ (s : List Float). take 192 (drop 8 s)) (sym later) ∙ balls_slice (slot_at slots j) (whole j room) in
    record { slot = slot; balls = subst (λ (s : List Float). Balled (slot_at slots to) slot s count) same (rw first b); put = sym (set-append_left front back to slot within) ∙ ap (λ (s : Slots). set s to slot) (sym e) }

-- ---- a candidate stored
living_eq : {t u : ℕ} {b c : Candidate} {l m : List Ball} → t ≡ u → b ≡ c → l ≡ m → ◌≡◌ {A = Living} (record { tau = t; box = b; losing = l }) (record { tau = u; box = c; losing = m })
living_eq p q r = λ i. record { tau = p i; box = q i; losing = r i }

-- its balls come from an area that holds them, its box and entry are put beside them
pub stored_from : {channels : ℕ} {x z : Slots} {ix iz : Entries} (j tau n word : ℕ) (between from : List Float) (cut : Candidate) {bs : List Ball} → length (slot_at x j) ≡ 200 → j < length ix
    → Balled (slot_at x j) between from n → Balls channels from n bs → balls_in word ≡ n → (is_marked word ≡ true → cut_losing channels bs cut ≡ cut)
    → slot_at z j ≡ put_box between cut → ((i : ℕ) → (i ≡ j → ⊥) → slot_at z i ≡ slot_at x i) → length z ≡ length x → iz ≡ set ix j (tau ∷ word ∷ []) → Wide cut
    → Stored channels x z ix iz j (record { tau = tau; box = cut; losing = bs }) word
unfolding lived_at
stored_from {channels} {x} {z} {ix} {iz} j tau n word between from cut {bs} whole few b k number uncut slot rest long e wide =
    let entry : get_or iz j [] ≡ tau ∷ word ∷ [] = ap (λ (l : Entries). get_or l j []) e ∙ get_or-set_same ix j (tau ∷ word ∷ []) [] few in
    let here : word_at iz j ≡ word = ap (λ (l : List ℕ). get_or l 1 0) entry in
    let balls : ball_floats (slot_at z j) ≡ ball_floats between = ap (drop 8) slot ∙ balls_beside_box between cut in
    let held : Balls channels (ball_floats (slot_at z j)) n bs = balls_kept (ball_floats (slot_at z j)) (λ i h. ap (λ (l : List Float). held_at l 0 i) balls ∙ b.balls i h) k in
    let box : box_at (slot_at z j) ≡ cut = ap box_at slot ∙ box_put between cut (b.long ∙ whole) ∙ box_by_numbers cut wide in
    record {
      living = living_eq (ap (λ (l : List ℕ). get_or l 0 0) entry) box (rw (here, number) held.list);
      sane = rw here (record { balls = rw number (record { list = refl; few = held.few; rooted = held.rooted }); uncut = λ m. rw (number, held.list, box) (uncut m) });
      rest = rest;
      rest_entries = λ i ne. ap (λ (l : Entries). get_or l i []) e ∙ get_or-set_other ix j i (tau ∷ word ∷ []) [] ne;
      long = long;
      long_entries = ap length e ∙ length-set ix j (tau ∷ word ∷ []);
    }

-- ---- one candidate more
-- a slot and its entry that stay are the same candidate
lived_same : (channels : ℕ) (x y : Slots) (ix iy : Entries) (j : ℕ) → slot_at y j ≡ slot_at x j → get_or iy j [] ≡ get_or ix j [] → lived_at channels y iy j ≡ lived_at channels x ix j
unfolding lived_at
lived_same channels x y ix iy j p q = rw (p, q) refl

balls_of_same : (channels : ℕ) (x y : Slots) (ix iy : Entries) (j : ℕ) → slot_at y j ≡ slot_at x j → get_or iy j [] ≡ get_or ix j [] → BallsOf channels x ix j → BallsOf channels y iy j
balls_of_same channels x y ix iy j p q k = rw (p, q) k

-- after a candidate was stored in slot j, the first j + 1 are the first j and it
pub stored_living : {channels : ℕ} {x y : Slots} {ix iy : Entries} {j : ℕ} {c : Living} {n : ℕ} → Stored channels x y ix iy j c n → lived channels y iy (j + 1) ≡ lived channels x ix j ++ (c ∷ [])
unfolding lived
stored_living {channels} {x} {y} {ix} {iy} {j} {c} s =
    tab_more (lived_at channels y iy) j
    ∙ ap₂ (λ (l : List Living) (v : Living). l ++ (v ∷ []))
    (tab_same (lived_at channels y iy) (lived_at channels x ix) j (λ i l. lived_same channels x y ix iy i (s.rest i (omega arith)) (s.rest_entries i (omega arith))))
    s.living

pub stored_sane : {channels : ℕ} {x y : Slots} {ix iy : Entries} {j : ℕ} {c : Living} {n : ℕ} → Stored channels x y ix iy j c n → Sane channels x ix j → Sane channels y iy (j + 1)
stored_sane {channels} {x} {y} {ix} {iy} {j} s k =
    record { each = λ i l. ⊎_elim (λ e. rw e s.sane) (λ l. balls_of_same channels x y ix iy i (s.rest i (omega arith)) (s.rest_entries i (omega arith)) (k.each i l)) (eq-or-lt_of_le (le_of_suc-le-suc (next l))) }
  where
    next : {i : ℕ} → i < j + 1 → i < suc j
    next l = omega arith

survivors_more : (channels : ℕ) (living : List Living) (j : ℕ) → survivors_to channels living (j + 1) ≡ joined_by channels (cut_back channels (living_at living j)) (survivors_to channels living j)
unfolding survivors_to
survivors_more channels living j = rw add-one refl

pub joined_gone : (channels : ℕ) (c : Living) (living : List Living) → is_dominated channels c.box ≡ true → joined_by channels c living ≡ living
unfolding joined_by
joined_gone channels c living e = rw e refl

pub joined_stays : (channels : ℕ) (c : Living) (living : List Living) → is_dominated channels c.box ≡ false → joined_by channels c living ≡ living ++ (c ∷ [])
unfolding joined_by
joined_stays channels c living e = rw e refl

pub narrowed_none : (channels : ℕ) (slots : Slots) (entries : Entries) (count : ℕ) → Narrowed channels slots slots entries entries count 0 0
unfolding lived survivors_to tab
narrowed_none channels slots entries count =
    record {
      few = omega arith;
      living = refl;
      sane = record { each = λ j h. absurd (not-suc-le-zero h) };
      rest = λ i h. refl;
      rest_entries = λ i h. refl;
      long = refl;
      long_entries = refl;
    }

module _ {channels : ℕ} {x y : Slots} {ix iy : Entries} {count j kept : ℕ} (r : Narrowed channels x y ix iy count j kept) (h : j < count) where
  -- the candidate that is looked at is the one that stood there at first
  candidate_still : cut_back channels (lived_at channels y iy j) ≡ cut_back channels (living_at (lived channels x ix count) j)
  unfolding lived
  candidate_still =
      ap (cut_back channels) (lived_same channels x y ix iy j (r.rest j (omega arith)) (r.rest_entries j (omega arith)) ∙ sym (tab_at (lived_at channels x ix) count j _ h))

  abbrev looked : Living
  looked = cut_back channels (lived_at channels y iy j)

  abbrev before : List Living
  before = survivors_to channels (lived channels x ix count) j

  narrowed_gone : is_dominated channels looked.box ≡ true → Narrowed channels x y ix iy count (j + 1) kept
  narrowed_gone e =
      let few = r.few in
      record {
        few = omega arith;
        living = r.living ∙ sym (joined_gone channels looked before e) ∙ ap (λ (d : Living). joined_by channels d before) candidate_still ∙ sym (survivors_more channels (lived channels x ix count) j);
        sane = r.sane;
        rest = λ i g. r.rest i (omega arith);
        rest_entries = λ i g. r.rest_entries i (omega arith);
        long = r.long;
        long_entries = r.long_entries;
      }

  narrowed_stays : {z : Slots} {iz : Entries} {n : ℕ} → is_dominated channels looked.box ≡ false → Stored channels y z iy iz kept looked n → Narrowed channels x z ix iz count (j + 1) (kept + 1)
  narrowed_stays e s =
      let few = r.few in
      record {
        few = omega arith;
        living =
            stored_living s
            ∙ ap (λ (m : List Living). m ++ (looked ∷ [])) r.living
            ∙ sym (joined_stays channels looked before e)
            ∙ ap (λ (d : Living). joined_by channels d before) candidate_still
            ∙ sym (survivors_more channels (lived channels x ix count) j);
        sane = stored_sane s r.sane;
        rest = λ i g. s.rest i (omega arith) ∙ r.rest i (omega arith);
        rest_entries = λ i g. s.rest_entries i (omega arith) ∙ r.rest_entries i (omega arith);
        long = s.long ∙ r.long;
        long_entries = s.long_entries ∙ r.long_entries;
      }

  pub narrowed_more : {z : Slots} {iz : Entries} {k : ℕ} → Settled channels y z iy iz kept looked k → Narrowed channels x z ix iz count (j + 1) k
  narrowed_more {z} {iz} {k} s = side (is_dominated channels looked.box) refl
    where
      side : (b : Bool) → is_dominated channels looked.box ≡ b → Narrowed channels x z ix iz count (j + 1) k
      side true e = let g = s.gone e in rw (g.0, g.1.same, g.1.same_entries) (narrowed_gone e)
      side false e = let g = s.stays e in rw g.0 (narrowed_stays e g.1.1)

-- what `settle` leaves: nothing done, or the candidate stored
pub settled_gone : {channels : ℕ} {x : Slots} {ix : Entries} {j : ℕ} {c : Living} → is_dominated channels c.box ≡ true → Settled channels x x ix ix j c j
settled_gone e = record { gone = λ _. (refl, record { same = refl; same_entries = refl }); stays = λ f. absurd (true≢false (sym e ∙ f)) }

pub settled_stays : {channels : ℕ} {x z : Slots} {ix iz : Entries} {j : ℕ} {c : Living} {word : ℕ} → is_dominated channels c.box ≡ false → Stored channels x z ix iz j c word → Settled channels x z ix iz j c (j + 1)
settled_stays {word = word} e s = record { gone = λ f. absurd (true≢false (sym f ∙ e)); stays = λ _. (refl, (word, s)) }

-- ---- what `settle` works out
pub balls_cut_in : (channels : ℕ) (slot : List Float) (word : ℕ) (x : Candidate) → Kept channels slot word → word ≤ 127 → length slot ≡ 200
    → cut_in channels (take 192 (drop 8 slot)) 0 word x ≡ cut_losing channels (balls_at channels (ball_floats slot) 0 (balls_in word)) x
balls_cut_in channels slot word x k low long =
    ap (λ (l : List Float). cut_in channels l 0 word x) (balls_slice slot long)
    ∙ balls_cut x (subst (λ (n : ℕ). Balls channels (ball_floats slot) n (balls_at channels (ball_floats slot) 0 (balls_in word))) (unmarked_balls word low) k.balls) (room slot long)
  where
    room : (l : List Float) → length l ≡ 200 → 192 ≤ length (drop 8 l)
    room l e = rw (length-drop 8 l) (omega arith)

module _ (channels : ℕ) (x : Slots) (ix : Entries) (j : ℕ) where
  abbrev cut_one : Living
  cut_one = cut_back channels (lived_at channels x ix j)

  pub settle_cut : (before cut : Candidate) → before ≡ box_at (slot_at x j) → cut ≡ cut_losing channels (balls_at channels (ball_floats (slot_at x j)) 0 (balls_in (word_at ix j))) before → cut ≡ cut_one.box
  unfolding cut_back lived_at
  settle_cut before cut e q = q ∙ (rw e refl)

  settle_wide : Wide cut_one.box
  unfolding cut_back lived_at
  settle_wide = cut_wide channels _ _ (box_wide (slot_at x j))

  balls_of : BallsOf channels x ix j → Balls channels (ball_floats (slot_at x j)) (balls_in (word_at ix j)) cut_one.losing
  unfolding cut_back lived_at
  balls_of v = v.balls

  -- balls that left a box as it was cut nothing from what they left
  cut_again : (before cut : Candidate) → before ≡ box_at (slot_at x j) → cut ≡ cut_one.box → SameBox before cut → cut_losing channels cut_one.losing cut ≡ cut
  unfolding cut_back lived_at
  cut_again before cut e q s =
      let same : before ≡ cut = same_boxes before cut (rw e (box_wide (slot_at x j))) (rw q settle_wide) s in
      ap (cut_losing channels _) (sym same ∙ e) ∙ sym q

  cut_by_parts : (cut : Candidate) → cut ≡ cut_one.box → ◌≡◌ {A = Living} (record { tau = tau_at ix j; box = cut; losing = cut_one.losing }) cut_one
  unfolding cut_back lived_at
  cut_by_parts cut q = living_eq refl q refl

  pub balls_few : BallsOf channels x ix j → balls_in (word_at ix j) ≤ 64
  balls_few v = (balls_of v).few

  pub settle_stored : {y z : Slots} {iz : Entries} (kept word : ℕ) (before cut : Candidate) (same : Bool) → BallsOf channels x ix j → before ≡ box_at (slot_at x j) → cut ≡ cut_one.box → (same ≡ true → SameBox before cut)
      → word ≡ cond same (balls_in (word_at ix j) + 128) (balls_in (word_at ix j)) → Brought x y kept j (balls_in (word_at ix j)) → z ≡ set y kept (put_box (slot_at y kept) cut) → iz ≡ set ix kept (tau_at ix j ∷ word ∷ [])
      → Whole x → kept < length x → kept < length ix → Stored channels x z ix iz kept cut_one word
  settle_stored {y} {z} {iz} kept word before cut same k d e u v b q p whole room few =
      let n = balls_in (word_at ix j) in
      let held : Balls channels (ball_floats (slot_at x j)) n cut_one.losing = balls_of k in
      let moved : slot_at y kept ≡ b.slot = ap (λ (s : Slots). slot_at s kept) b.put ∙ get_or-set_same x kept b.slot [] room in
      let long : length y ≡ length x = ap length b.put ∙ length-set x kept b.slot in
      let here : slot_at z kept ≡ put_box b.slot cut = ap (λ (s : Slots). slot_at s kept) q ∙ get_or-set_same y kept _ [] (omega arith) ∙ ap (λ (s : List Float). put_box s cut) moved in
      let s =
      stored_from kept (tau_at ix j) n word b.slot (ball_floats (slot_at x j)) cut (whole kept room) few b.balls held (rw v (marked_balls n same held.few)) (λ m. uncut held.few same u (rw v at m))
      here (λ i ne. ap (λ (s : Slots). slot_at s i) q ∙ get_or-set_other y kept i _ [] ne ∙ ap (λ (s : Slots). slot_at s i) b.put ∙ get_or-set_other x kept i b.slot [] ne)
      (ap length q ∙ length-set y kept _ ∙ long) p (rw e settle_wide) in
      subst (λ (l : Living). Stored channels x z ix iz kept l word) (cut_by_parts cut e) s
    where
      uncut : balls_in (word_at ix j) ≤ 64 → (t : Bool) → (t ≡ true → SameBox before cut) → is_marked (cond t (balls_in (word_at ix j) + 128) (balls_in (word_at ix j))) ≡ true → cut_losing channels cut_one.losing cut ≡ cut
      uncut l true m i = cut_again before cut d e (m refl)
      uncut l false m i = absurd (few_unmarked _ l i)
