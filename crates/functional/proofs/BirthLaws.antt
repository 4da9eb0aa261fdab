-- Laws of a birth: what the new candidate is, what becomes of the others, and that together they are the definition's. Assumes nothing.
use Rattle.std.proofs.Common.{◌≡◌, ℕ, zero, suc, ◌+◌, ◌≤◌, ◌<◌, Bool, true, false, cond, List, [], ◌∷◌, ◌++◌, length, take, drop, length-set, length-take, length-drop, length-append, refl, sym, ap, ◌∙◌, subst, arith, true≢false, ap₂, eqb, get_or-set_same, get_or-set_other}
use lib.Seq.{get_or-take}
use lib.ListN.{get_or-append}
use native.Mathlib.Nat.{le_of_lt, le_trans, lt_irrefl}
use lib.Ieee.{Float}
use Rattle.floats.specs.Numbers.{+0}
use Rattle.areas.proofs.PartLaws.{tab_at, tab_same, tab_length}
use Rattle.candidate.specs.declared.Candidate.{Candidate}
use Rattle.candidate_balls.specs.declared.Ball.{Ball}
use Rattle.candidate.specs.Boxes.{ball_of, restrict}
use Rattle.candidate.specs.Balls.{balls_at, meant}
use Rattle.candidate.specs.Cuts.{cut_in}
use Rattle.candidate.specs.Dominated.{is_dominated}
use Rattle.candidate.specs.Losses.{lose_inside}
use Rattle.functional.specs.declared.Plan.{Plan}
use Rattle.search_rules.specs.declared.Facing.{Facing}
use Rattle.search_rules.specs.Functional.{Living, besides, facing, outer_ball, inner_ball, living_at, lost_to, restricted, cut_back, winners_to, range_box, born, joined_by, join_of}
use Rattle.functional.specs.Inner.Held.{Sound, task, Slots, slot_at, Whole, box_at, facing_at, ball_floats, put_box, put_facing, Mapped, Balls, lost_by, Entries, tau_at, lived_at, lived, BallsOf, Sane, narrowed_at, Remarked, Stored, survivors_to, Narrowed, Placed, Wide, born_from, Met, Borne, Joins}
use Rattle.functional.proofs.SlotLaws.{box_put, balls_beside_box, facing_put, facing_long, box_beside_facing, balls_beside_facing}
use Rattle.functional.proofs.BallLaws.{balls_cut}
use Rattle.functional.proofs.BoxLaws.{range_wide, box_by_numbers, box_wide, restrict_wide, cut_wide}
use Rattle.functional.proofs.MarkLaws.{unmarked_balls, few_unmarked}
use Rattle.functional.proofs.NarrowLaws.{stored_from, stored_living, stored_sane, joined_gone, joined_stays}

-- ---- the new candidate
pub born_cut : (q : Plan) (area : List Float) (balls b : ℕ) (cut : Candidate) → Balls q.channels area balls (balls_at q.channels area 0 balls) → length area ≡ 192
    → cut ≡ cut_in q.channels area 0 balls q.range → cut ≡ (born_from q area balls b).box
unfolding born_from cut_back
born_cut q area balls b cut k e p = p ∙ balls_cut q.range k (omega arith)

born_by_parts : (q : Plan) (area : List Float) (balls b : ℕ) (cut : Candidate) → cut ≡ (born_from q area balls b).box
    → ◌≡◌ {A = Living} (record { tau = b; box = cut; losing = balls_at q.channels area 0 balls }) (born_from q area balls b)
unfolding born_from cut_back
born_by_parts q area balls b cut e = ap (λ (x : Candidate). record { tau = b; box = x; losing = balls_at q.channels area 0 balls }) e

born_wide : (q : Plan) (area : List Float) (balls b : ℕ) → Wide q.range → Wide (born_from q area balls b).box
unfolding born_from cut_back
born_wide q area balls b w = cut_wide q.channels _ _ w

pub borne_gone : {q : Plan} {x : Slots} {ix : Entries} {j : ℕ} {c : Living} {n : ℕ} → is_dominated q.channels c.box ≡ true → Borne q x x ix ix j c n j
borne_gone e =
    record {
      gone = λ _. (refl, record { same = refl; same_entries = refl });
      counted = λ f. absurd (true≢false (sym e ∙ f));
      stored = λ f. absurd (true≢false (sym e ∙ f));
    }

pub borne_stored : (q : Plan) (x z : Slots) (area : List Float) (ix iz : Entries) (j n b : ℕ) (cut : Candidate) → Sound q → is_dominated q.channels (born_from q area n b).box ≡ false → cut ≡ (born_from q area n b).box
    → Balls q.channels area n (balls_at q.channels area 0 n) → Placed x z ix iz area j b n cut → Whole x → j < length x → j < length ix → Borne q x z ix iz j (born_from q area n b) n (j + 1)
borne_stored q x z area ix iz j n b cut sound e f k p whole room few =
    let wide : Wide q.range = rw sound.range (range_wide (task q)) in
    let s =
    stored_from j b n n p.between area cut (whole j room) few p.balls k (unmarked_balls n (omega (arith, k.few))) (λ m. absurd (few_unmarked n k.few m)) (ap (λ (l : Slots). slot_at l j) p.put ∙ get_or-set_same x j _ [] room)
    (λ i ne. ap (λ (l : Slots). slot_at l i) p.put ∙ get_or-set_other x j i _ [] ne) (ap length p.put ∙ length-set x j _) p.entry (rw f (born_wide q area n b wide)) in
    record {
      gone = λ h. absurd (true≢false (sym h ∙ e));
      counted = λ _. refl;
      stored = λ _ _. subst (λ (d : Living). Stored q.channels x z ix iz j d n) (born_by_parts q area n b cut f) s;
    }

pub borne_full : {q : Plan} {x : Slots} {ix : Entries} {j : ℕ} {c : Living} {n : ℕ} → is_dominated q.channels c.box ≡ false → length x ≤ j → Borne q x x ix ix j c n (j + 1)
borne_full e h =
    record {
      gone = λ f. absurd (true≢false (sym f ∙ e));
      counted = λ _. refl;
      stored = λ _ l. absurd (lt_irrefl _ (le_trans l h));
    }

twice : (t : Bool) (c v r : Float) → ball_of c (cond t +0 (cond t +0 v)) r ≡ ball_of c (cond t +0 v) r
twice true c v r = refl
twice false c v r = refl

-- ---- what becomes of the others
module _ (q : Plan) (f : List Float) (x y z : Slots) (ix iy : Entries) (b : ℕ) (whole : Whole x)
    (faced : Mapped (λ i slot. put_facing slot (facing (task q) f (tau_at ix i) b)) x y (length x))
    (narrowed : Mapped (λ i slot. put_box slot (narrowed_at q.channels slot)) y z (length x)) (words : Remarked q.channels y ix iy (length x)) where
  abbrev living : List Living
  living = lived q.channels x ix (length x)

  living_is : (j : ℕ) → j < length x → living_at living j ≡ lived_at q.channels x ix j
  unfolding lived
  living_is j h = tab_at (lived_at q.channels x ix) (length x) j _ h

  slot_full : (j : ℕ) → j < length x → length (slot_at x j) ≡ 200
  slot_full j h = whole j h

  -- the ball that a slot holds
  face_is : (j : ℕ) → j < length x → facing_at (slot_at y j) ≡ facing (task q) f (living_at living j).tau b
  unfolding lived_at
  face_is j h =
      ap facing_at (faced.done j h)
      ∙ facing_put (slot_at x j) _ (slot_full j h)
      ∙ ap (λ (c : Living). facing (task q) f c.tau b) (sym (living_is j h))

  meant_inner : (a : ℕ) → meant q.channels (inner_ball (facing (task q) f a b)) ≡ inner_ball (facing (task q) f a b)
  unfolding meant facing besides
  meant_inner a = twice (eqb q.channels 1) _ _ _

  pub lost_is : (j : ℕ) → j ≤ length x → lost_by q.channels (λ i. inner_ball (facing_at (slot_at y i))) j ≡ lost_to (task q) f b living j
  unfolding lost_by lost_to
  lost_is zero h = refl
  lost_is (suc j) h = ap₂ lose_inside (ap (λ (v : Facing). meant q.channels (inner_ball v)) (face_is j h) ∙ meant_inner (living_at living j).tau) (lost_is j (le_of_lt h))

  -- each candidate restricted
  box_still : (j : ℕ) → j < length x → box_at (slot_at y j) ≡ box_at (slot_at x j)
  box_still j h = ap box_at (faced.done j h) ∙ box_beside_facing (slot_at x j) _

  box_narrowed : (j : ℕ) → j < length x → box_at (slot_at z j) ≡ narrowed_at q.channels (slot_at y j)
  unfolding narrowed_at
  box_narrowed j h =
      let long : length (slot_at y j) ≡ 200 = ap length (faced.done j h) ∙ facing_long (slot_at x j) _ ∙ slot_full j h in
      ap box_at (narrowed.done j h) ∙ box_put (slot_at y j) _ long ∙ box_by_numbers _ (restrict_wide q.channels _ _ (box_wide (slot_at y j)))

  box_is : (j : ℕ) → j < length x → box_at (slot_at z j) ≡ restrict q.channels (outer_ball (facing (task q) f (living_at living j).tau b)) (box_at (slot_at x j))
  unfolding narrowed_at
  box_is j h = box_narrowed j h ∙ ap₂ (λ (v : Facing) (c : Candidate). restrict q.channels (outer_ball v) c) (face_is j h) (box_still j h)

  balls_are : (j : ℕ) → j < length x → ball_floats (slot_at z j) ≡ ball_floats (slot_at x j)
  balls_are j h = ap (drop 8) (narrowed.done j h) ∙ balls_beside_box (slot_at y j) _ ∙ ap (drop 8) (faced.done j h) ∙ balls_beside_facing (slot_at x j) _

  parts : (j : ℕ) → j < length x → lived_at q.channels z iy j ≡ restricted (task q) f b (living_at living j)
  unfolding restricted lived_at
  parts j h =
      let still = living_is j h in
      let number = (words.done j h).balls in
      rw (box_is j h, balls_are j h, words.taus j, number, still) refl

  -- a box that is still marked is the one that it was
  sane_at : (j : ℕ) → j < length x → BallsOf q.channels x ix j → BallsOf q.channels z iy j
  sane_at j h k =
      let r = words.done j h in
      record {
        balls = rw (balls_are j h, r.balls) k.balls;
        uncut = λ m. let t = r.stays m in rw (balls_are j h, r.balls, box_narrowed j h ∙ t.1 ∙ box_still j h) (k.uncut t.0);
      }

  restricted_is : (j : ℕ) → j < length x → living_at (lived q.channels z iy (length x)) j ≡ restricted (task q) f b (living_at living j)
  unfolding lived
  restricted_is j h = tab_at (lived_at q.channels z iy) (length x) j _ h ∙ parts j h

  pub winners_are : (j : ℕ) → j ≤ length x → survivors_to q.channels (lived q.channels z iy (length x)) j ≡ winners_to (task q) f b living j
  unfolding survivors_to winners_to joined_by
  winners_are zero h = refl
  winners_are (suc j) h = ap₂ (λ (c : Living) (l : List Living). joined_by q.channels (cut_back q.channels c) l) (restricted_is j h) (winners_are j (le_of_lt h))

  pub sane_still : Sane q.channels x ix (length x) → Sane q.channels z iy (length x)
  sane_still s = record { each = λ j h. sane_at j h (s.each j h) }

-- ---- together
pub lived_long : (channels : ℕ) (x : Slots) (ix : Entries) (count : ℕ) → length (lived channels x ix count) ≡ count
unfolding lived
lived_long channels x ix count = tab_length (lived_at channels x ix) count

born_is : (q : Plan) (area : List Float) (balls b : ℕ) (bs : List Ball) → q.range ≡ range_box (task q) → balls_at q.channels area 0 balls ≡ bs → born_from q area balls b ≡ born (task q) b bs
unfolding born_from born
born_is q area balls b bs e f = rw (e, f) refl

joined_length : (channels : ℕ) (c : Living) (l : List Living) (n r : ℕ) → length l ≡ n → (is_dominated channels c.box ≡ true → r ≡ n) → (is_dominated channels c.box ≡ false → r ≡ n + 1)
    → r ≡ length (joined_by channels c l)
joined_length channels c l n r e f g = go (is_dominated channels c.box) refl
  where
    go : (t : Bool) → is_dominated channels c.box ≡ t → r ≡ length (joined_by channels c l)
    go true h = f h ∙ sym e ∙ ap length (sym (joined_gone channels c l h))
    go false h = g h ∙ ap (λ (k : ℕ). k + 1) (sym e) ∙ sym (length-append l (c ∷ [])) ∙ ap length (sym (joined_stays channels c l h))

module _ {q : Plan} {u v : Slots} {iy iz : Entries} {kept : ℕ} {c : Living} {n r : ℕ} (t : Borne q u v iy iz kept c n r) where
  borne_living : (l : List Living) → lived q.channels u iy kept ≡ l → r ≤ length u → lived q.channels v iz r ≡ joined_by q.channels c l
  borne_living l e m = go (is_dominated q.channels c.box) refl
    where
      go : (w : Bool) → is_dominated q.channels c.box ≡ w → lived q.channels v iz r ≡ joined_by q.channels c l
      go true d = let g = t.gone d in (rw (g.0, g.1.same, g.1.same_entries) e) ∙ sym (joined_gone q.channels c l d)
      go false d =
          let g = t.counted d in
          let s = t.stored d (omega arith) in
          (rw g (stored_living s)) ∙ ap (λ (k : List Living). k ++ (c ∷ [])) e ∙ sym (joined_stays q.channels c l d)

  borne_sane : Sane q.channels u iy kept → r ≤ length u → Sane q.channels v iz r
  borne_sane k m = go (is_dominated q.channels c.box) refl
    where
      go : (w : Bool) → is_dominated q.channels c.box ≡ w → Sane q.channels v iz r
      go true d = let g = t.gone d in rw (g.0, g.1.same, g.1.same_entries) k
      go false d = let g = t.counted d in rw g (stored_sane (t.stored d (omega arith)) k)

  borne_few : r ≤ kept + 1
  borne_few = go (is_dominated q.channels c.box) refl
    where
      go : (w : Bool) → is_dominated q.channels c.box ≡ w → r ≤ kept + 1
      go true d = omega (arith, (t.gone d).0)
      go false d = omega (arith, t.counted d)

-- what the new candidate leaves of the others, from the steps of `meet`
pub met : (q : Plan) (f : List Float) (x y z u : Slots) (area : List Float) (ix im iy : Entries) (b balls kept : ℕ) → Whole x
    → Mapped (λ i slot. put_facing slot (facing (task q) f (tau_at ix i) b)) x y (length x)
    → Balls q.channels area balls (lost_by q.channels (λ j. inner_ball (facing_at (slot_at y j))) (length y))
    → Mapped (λ i slot. put_box slot (narrowed_at q.channels slot)) y z (length y) → Remarked q.channels y ix im (length y)
    → Narrowed q.channels z u im iy (length z) (length z) kept
    → Met q f x u ix iy area b balls kept
met q f x y z u area ix im iy b balls kept full faced lost narrowed words nar =
    let n = length x in
    let ey : length y ≡ n = faced.long in
    let ez : length z ≡ n = narrowed.long ∙ ey in
    let moved : Mapped (λ i slot. put_box slot (narrowed_at q.channels slot)) y z n = rw ey at narrowed in
    let marked : Remarked q.channels y ix im n = rw ey at words in
    let cut : Narrowed q.channels z u im iy n n kept = rw ez at nar in
    let gathered : Balls q.channels area balls (lost_by q.channels (λ j. inner_ball (facing_at (slot_at y j))) n) = rw ey at lost in
    record {
      lost = rw (← lost_is q f x y z ix im b full faced moved marked n (omega arith)) gathered;
      living = cut.living ∙ winners_are q f x y z ix im b full faced moved marked n (omega arith);
      sane = cut.sane;
      few = cut.few;
    }

-- ---- the living candidates as the front of the areas
lived_front : (channels : ℕ) (x : Slots) (ix : Entries) (n : ℕ) → lived channels (take n x) (take n ix) n ≡ lived channels x ix n
unfolding lived lived_at
lived_front channels x ix n = tab_same _ _ n (λ i h. rw (get_or-take n x i [] h, get_or-take n ix i [] h) refl)

lived_before : (channels : ℕ) (u x : Slots) (iu ix : Entries) (n : ℕ) → n ≤ length u → n ≤ length iu → lived channels (u ++ x) (iu ++ ix) n ≡ lived channels u iu n
unfolding lived lived_at
lived_before channels u x iu ix n h g = tab_same _ _ n (λ i l. rw (get_or-append u x [] i (omega arith), get_or-append iu ix [] i (omega arith)) refl)

sane_before : {channels : ℕ} (u x : Slots) (iu ix : Entries) (n : ℕ) → n ≤ length u → n ≤ length iu → Sane channels u iu n → Sane channels (u ++ x) (iu ++ ix) n
sane_before u x iu ix n h g s = record { each = λ i l. rw (get_or-append u x [] i (omega arith), get_or-append iu ix [] i (omega arith)) (s.each i l) }

-- it joins those that are left, with what lies behind the living ones
pub joins : (q : Plan) (f : List Float) (x u v : Slots) (area : List Float) (ix iy iz : Entries) (count b balls kept r : ℕ) → Sound q → count ≤ length x → count ≤ length ix
    → length u ≡ length (take count x) → length iy ≡ length (take count ix)
    → Met q f (take count x) u (take count ix) iy area b balls kept
    → Borne q (u ++ drop count x) v (iy ++ drop count ix) iz kept (born_from q area balls b) balls r
    → Joins q f x v ix iz count b r
unfolding join_of
joins q f x u v area ix iy iz count b balls kept r sound room wide eu ei met t =
    let k = task q in
    let l = lived q.channels x ix count in
    let c = born_from q area balls b in
    let long : length l ≡ count = lived_long q.channels x ix count in
    let front : length (take count x) ≡ count = length-take count x ∙ omega arith in
    let back : length (take count ix) ≡ count = length-take count ix ∙ omega arith in
    let few : kept ≤ count = rw front at met.few in
    let size : length (u ++ drop count x) ≡ length x = length-append u (drop count x) ∙ ap (λ (n : ℕ). length u + n) (length-drop count x) ∙ omega arith in
    let same : lived q.channels (take count x) (take count ix) (length (take count x)) ≡ l = rw front (lived_front q.channels x ix count) in
    let win : lived q.channels (u ++ drop count x) (iy ++ drop count ix) kept ≡ winners_to k f b l count =
    lived_before q.channels u (drop count x) iy (drop count ix) kept (omega arith) (omega arith) ∙ met.living ∙ ap₂ (winners_to k f b) same front in
    let sane : Sane q.channels (u ++ drop count x) (iy ++ drop count ix) kept = sane_before u (drop count x) iy (drop count ix) kept (omega arith) (omega arith) met.sane in
    let new : c ≡ born k b (lost_to k f b l count) = born_is q area balls b _ sound.range (met.lost.list ∙ ap₂ (lost_to k f b) same front) in
    let whole : joined_by q.channels c (winners_to k f b l count) ≡ joined_by q.channels (born k b (lost_to k f b l (length l))) (winners_to k f b l (length l)) =
    ap (λ (d : Living). joined_by q.channels d (winners_to k f b l count)) new ∙ ap (λ (n : ℕ). joined_by q.channels (born k b (lost_to k f b l n)) (winners_to k f b l n)) (sym long) in
    record {
      counted = joined_length q.channels c (winners_to k f b l count) kept r (sym (ap length win) ∙ lived_long q.channels _ _ kept) (λ d. (t.gone d).0) t.counted ∙ ap length whole;
      living = λ m. borne_living t (winners_to k f b l count) win (omega arith) ∙ whole;
      sane = λ m. borne_sane t sane (omega arith);
      few = omega (arith, borne_few t);
    }
