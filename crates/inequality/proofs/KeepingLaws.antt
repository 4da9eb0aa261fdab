-- Laws of the candidates that stay: the first all stay, one more is looked at, and part after part of the floats. Assumes nothing.
use Prim.Native.Nat.{ℕ, zero, suc, ◌+◌, ◌-◌, ◌*◌, ◌≤◌, ◌<◌}
use mathlib.Core.Path.{◌≡◌, refl, sym, ap, ap₂, ◌∙◌, subst}
use mathlib.Core.Bool.{true, false, ◌&&◌}
use mathlib.Core.List.{List, [], ◌∷◌, ◌++◌}
use mathlib.Core.Logic.{⊎_elim}
use native.Mathlib.Omega.{arith}
use native.Mathlib.Nat.{eq-or-lt_of_le, le_of_suc-le-suc, not-suc-le-zero}
use native.Mathlib.Numerals.{add-one}
use lib.ListN.{length, get_or, set, take, drop, length-take, length-drop, length-append}
use borrow.Rule.Slice.PartMut.{put_mid}
use Rattle.std.proofs.lemmas.List.{take_at, drop_at, take-append-le, drop-append-le, drop-drop, append_assoc, get_or_append_left, get_or-append_right}
use Rattle.std.proofs.lemmas.Slice.{drop-put_mid}
use Rattle.inequality.proofs.ViewLaws.{between_at}
use lib.Seq.{get_or-set_other, get_or-set_same, get_or-take, get_or-drop, length-take-le}
use lib.Ieee.{Float, nan}
use Rattle.logic.proofs.Laws.{both}
use Rattle.floats.specs.Numbers.{◌<ᶠ◌}
use Rattle.areas.specs.Parts.{part, Frame}
use Rattle.areas.proofs.PartLaws.{part_suc, part_front, part_above, push, frame_refl, frame_set, frame_wide, frame_trans}
use Rattle.sums.proofs.ChannelLaws.{mul_more, mul_room}
use Rattle.inequality.specs.declared.Plan.{Plan}
use Rattle.inequality.specs.Inner.Held.{Room}
use Rattle.inequality.specs.Inner.Staying.{stays, Staying, Leaving, stay_count, kept_by, Retained, RetainedRuns, Joined}
use Rattle.inequality.proofs.WrittenLaws.{at_front, at_back}

-- ---- the parts of the sums, and F's with them, end where the weights begin
pub runs_end : (q : Plan) (lf li : ℕ) → Room q lf li → (2 * q.channels + 1) * (q.n + 1) ≡ q.p
runs_end q lf li room = mul_more (2 * q.channels) (q.n + 1) ∙ (rw (room.p, room.f) refl)

pub run_room : (q : Plan) (lf li r : ℕ) → Room q lf li → r < 2 * q.channels + 1 → r * (q.n + 1) + (q.n + 1) ≤ q.p
run_room q lf li r room h = omega (arith, mul_room r (2 * q.channels + 1) (q.n + 1) h, runs_end q lf li room)

-- ---- the first candidates all stay
pub staying_none : (bound : Float) (xs : List Float) (p : ℕ) → Staying bound xs p 0
staying_none bound xs p = record { stay = λ i h. absurd (not-suc-le-zero h) }

pub staying_more : {bound : Float} {xs : List Float} {p j : ℕ} (i : ℕ) → Staying bound xs p j → i ≡ p + j → (get_or xs i nan <ᶠ bound) ≡ true → Staying bound xs p (j + 1)
staying_more {bound} {xs} {p} {j} i s e h = record { stay = λ k l. ⊎_elim (λ q. ap (λ (n : ℕ). get_or xs n nan <ᶠ bound) (ap (λ (n : ℕ). p + n) q ∙ sym e) ∙ h) (λ l. s.stay k l) (eq-or-lt_of_le (le_of_suc-le-suc (rw add-one at l))) }

pub staying_four : {bound : Float} {xs : List Float} {p j : ℕ} (i : ℕ) → Staying bound xs p j → i ≡ p + j
    → (((get_or xs i nan <ᶠ bound && get_or xs (i + 1) nan <ᶠ bound) && get_or xs (i + 2) nan <ᶠ bound) && get_or xs (i + 3) nan <ᶠ bound) ≡ true → Staying bound xs p (j + 4)
staying_four {bound} {xs} {p} {j} i s e h =
    let three = both _ _ h in
    let two = both _ _ three.0 in
    let one = both _ _ two.0 in
    let first = staying_more i s e one.0 in
    let second = staying_more (i + 1) first (omega arith) one.1 in
    let third = staying_more (i + 2) second (omega arith) two.1 in
    let fourth = staying_more (i + 3) third (omega arith) three.1 in
    let same : j + 1 + 1 + 1 + 1 ≡ j + 4 = omega arith in
    subst (λ (k : ℕ). Staying bound xs p k) same fourth

-- ---- how many stay
count_yes : (bound : Float) (xs : List Float) (p i : ℕ) → stays bound xs p i ≡ true → stay_count bound xs p (i + 1) ≡ suc (stay_count bound xs p i)
unfolding stay_count
count_yes bound xs p i e = rw (add-one, e) refl

count_no : (bound : Float) (xs : List Float) (p i : ℕ) → stays bound xs p i ≡ false → stay_count bound xs p (i + 1) ≡ stay_count bound xs p i
unfolding stay_count
count_no bound xs p i e = rw (add-one, e) refl

count_front : (bound : Float) (xs : List Float) (p i : ℕ) → Staying bound xs p i → i ≡ stay_count bound xs p i
unfolding stay_count
count_front bound xs p zero s = refl
count_front bound xs p (suc i) s = rw (s.stay i (omega arith)) (ap suc (count_front bound xs p i (record { stay = λ k l. s.stay k (omega arith) })))

-- ---- values whose candidates stay
module _ {A : Type 0} (bound : Float) (xs : List Float) (p : ℕ) (d : A) where
  kept_yes : (values : List A) (b i : ℕ) → stays bound xs p i ≡ true → kept_by bound xs p d values b (i + 1) ≡ kept_by bound xs p d values b i ++ (get_or values (b + i) d ∷ [])
  unfolding kept_by
  kept_yes values b i e = rw (add-one, e) refl

  kept_no : (values : List A) (b i : ℕ) → stays bound xs p i ≡ false → kept_by bound xs p d values b (i + 1) ≡ kept_by bound xs p d values b i
  unfolding kept_by
  kept_no values b i e = rw (add-one, e) refl

  kept_front : (values : List A) (b i : ℕ) → Staying bound xs p i → b + i ≤ length values → part values b i ≡ kept_by bound xs p d values b i
  unfolding kept_by part
  kept_front values b zero s h = refl
  kept_front values b (suc i) s h =
      part_suc values b i d (omega arith)
      ∙ (rw (s.stay i (omega arith)) (ap (λ (l : List A). l ++ (get_or values (b + i) d ∷ [])) (kept_front values b i (record { stay = λ k l. s.stay k (omega arith) }) (omega arith))))

  pub retained_from : (values : List A) (b count i : ℕ) → Staying bound xs p i → i ≤ count → b + count ≤ length values → Retained bound xs p d values values b count i i
  retained_from values b count i s h l =
      record { many = count_front bound xs p i s; few = omega arith; front = kept_front values b i s (omega arith); rest = λ j g k. refl; frame = frame_refl values b count }

  -- the value `i` goes, and nothing is stored
  retained_past : (values ys : List A) (b count i kept : ℕ) → Retained bound xs p d values ys b count i kept → stays bound xs p i ≡ false → Retained bound xs p d values ys b count (i + 1) kept
  retained_past values ys b count i kept r e =
      let few = r.few in
      record {
        many = r.many ∙ sym (count_no bound xs p i e);
        few = omega arith;
        front = r.front ∙ sym (kept_no values b i e);
        rest = λ j l g. r.rest j (omega arith) g;
        frame = r.frame;
      }

  past : (k : ℕ) (values : List A) (b count i : ℕ) → Staying bound xs p i → i + k ≤ count → b + count ≤ length values → Leaving bound xs p i (i + k) → Retained bound xs p d values values b count (i + k) i
  past zero values b count i s h l g = subst (λ (j : ℕ). Retained bound xs p d values values b count j i) (none i) (retained_from values b count i s (omega arith) l)
    where
      none : (i : ℕ) → i ≡ i + 0
      none i = omega arith
  past (suc k) values b count i s h l g =
      subst (λ (j : ℕ). Retained bound xs p d values values b count j i) (more i k)
      (retained_past values values b count (i + k) i (past k values b count i s (omega arith) l (record { leave = λ j a z. g.leave j a (omega arith) })) (g.leave (i + k) (omega arith) (omega arith)))
    where
      more : (i k : ℕ) → i + k + 1 ≡ i + suc k
      more i k = omega arith

  -- the first `i` stay and those behind them up to `j` go
  pub retained_leaving : (values : List A) (b count i j : ℕ) → Staying bound xs p i → Leaving bound xs p i j → i ≤ j → j ≤ count → b + count ≤ length values → Retained bound xs p d values values b count j i
  retained_leaving values b count i j s g o h l =
      let e : i + (j - i) ≡ j = omega arith in
      subst (λ (k : ℕ). Retained bound xs p d values values b count k i) e
      (past (j - i) values b count i s (omega (arith, e)) l (record { leave = λ k a z. g.leave k a (omega (arith, e)) }))

  -- the value `i` has been stored behind those that stay
  pub retained_yes : (values ys : List A) (b count i kept k : ℕ) (v : A) → Retained bound xs p d values ys b count i kept → b + count ≤ length ys → i < count
      → stays bound xs p i ≡ true → v ≡ get_or ys (b + i) d → k ≡ b + kept
      → Retained bound xs p d values (set ys k v) b count (i + 1) (kept + 1)
  retained_yes values ys b count i kept k v r room h e ev ek =
      let few = r.few in
      let same : v ≡ get_or values (b + i) d = ev ∙ r.rest i (omega arith) h in
      record {
        many = rw (add-one) (ap suc r.many ∙ sym (count_yes bound xs p i e));
        few = omega arith;
        front = push ys b kept k v ek (omega arith) ∙ (rw (r.front, same) (sym (kept_yes values b i e)));
        rest = λ j l g. get_or-set_other ys k (b + j) v d (omega arith) ∙ r.rest j (omega arith) g;
        frame = frame_set k v r.frame (omega arith) (omega arith);
      }

  pub retained_no : (values ys : List A) (b count i kept k : ℕ) (v : A) → Retained bound xs p d values ys b count i kept → b + count ≤ length ys → i < count
      → stays bound xs p i ≡ false → k ≡ b + kept → Retained bound xs p d values (set ys k v) b count (i + 1) kept
  retained_no values ys b count i kept k v r room h e ek =
      let few = r.few in
      record {
        many = r.many ∙ sym (count_no bound xs p i e);
        few = omega arith;
        front = part_above ys b kept k v (omega arith) ∙ r.front ∙ sym (kept_no values b i e);
        rest = λ j l g. get_or-set_other ys k (b + j) v d (omega arith) ∙ r.rest j (omega arith) g;
        frame = frame_set k v r.frame (omega arith) (omega arith);
      }

  pub retained_all : (values ys : List A) (b count i j kept : ℕ) → i ≡ j → Retained bound xs p d values ys b count i kept → Retained bound xs p d values ys b count j kept
  retained_all values ys b count i j kept e r = subst (λ (k : ℕ). Retained bound xs p d values ys b count k kept) e r

-- the same weights and the same values keep the same, wherever they stand
kept_same : {A : Type 0} (bound : Float) (xs ys : List Float) (p p' : ℕ) (d : A) (us vs : List A) (b b' j : ℕ) → ((i : ℕ) → i < j → get_or ys (p' + i) nan ≡ get_or xs (p + i) nan)
    → ((i : ℕ) → i < j → get_or vs (b' + i) d ≡ get_or us (b + i) d) → kept_by bound ys p' d vs b' j ≡ kept_by bound xs p d us b j
unfolding kept_by
kept_same bound xs ys p p' d us vs b b' zero e f = refl
kept_same bound xs ys p p' d us vs b b' (suc j) e f =
    rw (e j (omega arith), f j (omega arith), kept_same bound xs ys p p' d us vs b b' j (λ i h. e i (omega arith)) (λ i h. f i (omega arith))) refl

count_same : (bound : Float) (xs ys : List Float) (p p' j : ℕ) → ((i : ℕ) → i < j → get_or ys (p' + i) nan ≡ get_or xs (p + i) nan) → stay_count bound ys p' j ≡ stay_count bound xs p j
unfolding stay_count
count_same bound xs ys p p' zero e = refl
count_same bound xs ys p p' (suc j) e = rw (e j (omega arith), count_same bound xs ys p p' j (λ i h. e i (omega arith))) refl

-- ---- a whole slice of values, of any type, beside the slice of their weights
other_default : {A : Type 0} (l : List A) (i : ℕ) (d e : A) → i < length l → get_or l i d ≡ get_or l i e
other_default [] i d e h = absurd (not-suc-le-zero h)
other_default (x ∷ l) zero d e h = refl
other_default (x ∷ l) (suc i) d e h = other_default l i d e (le_of_suc-le-suc h)

module _ {A : Type 0} (bound : Float) (weights : List Float) (d : A) (values ys : List A) (n i kept k : ℕ) (v : A) (r : Retained bound weights 0 d values ys 0 n i kept) (room : n ≤ length ys) (h : i < n) where
  pub slice_yes : (get_or weights i nan <ᶠ bound) ≡ true → v ≡ get_or ys i v → k ≡ kept + 1 → Retained bound weights 0 d values (set ys kept v) 0 n (i + 1) k
  slice_yes e ev ek =
      let z : 0 + i ≡ i = omega arith in
      rw ek
      (retained_yes bound weights 0 d values ys 0 n i kept kept v r (omega arith) h (ap (λ (j : ℕ). get_or weights j nan <ᶠ bound) z ∙ e) (ev ∙ other_default ys i v d (omega arith) ∙ ap (λ (j : ℕ). get_or ys j d) (sym z)) (omega arith))

  pub slice_no : (get_or weights i nan <ᶠ bound) ≡ false → k ≡ kept → Retained bound weights 0 d values (set ys kept v) 0 n (i + 1) k
  slice_no e ek = let z : 0 + i ≡ i = omega arith in rw ek (retained_no bound weights 0 d values ys 0 n i kept kept v r (omega arith) h (ap (λ (j : ℕ). get_or weights j nan <ᶠ bound) z ∙ e) (omega arith))

-- ---- a slice of an area, whose weights are a slice too
-- the weight `i` of the `n` weights from `p` on
pub weight_front : (xs : List Float) (p n i : ℕ) → i < n → get_or (take n (drop p xs)) (0 + i) nan ≡ get_or xs (p + i) nan
weight_front xs p n i h = let o : 0 + i ≡ i = omega arith in ap (λ (k : ℕ). get_or (take n (drop p xs)) k nan) o ∙ get_or-take n (drop p xs) i nan h ∙ get_or-drop p xs i nan

pub slice_length : {A : Type 0} (ys : List A) (b n : ℕ) → b + n ≤ length ys → length (take (b + n - b) (drop b ys)) ≡ n
slice_length ys b n h = simp (length-take, length-drop) (omega arith)

-- what was done to the slice of `ys` from `b` on was done to `ys`
pub retained_slice : {A : Type 0} (bound : Float) (ws xs : List Float) (p : ℕ) (d : A) (ys new : List A) (b e n kept m : ℕ) → e ≡ b + n → m ≡ n → e ≤ length ys
    → ((i : ℕ) → i < n → get_or ws (0 + i) nan ≡ get_or xs (p + i) nan) → Retained bound ws 0 d (take (e - b) (drop b ys)) new 0 m m kept
    → Retained bound xs p d ys (put_mid b (e - b) ys new) b n n kept
unfolding part
retained_slice {A} bound ws xs p d ys new b e n kept m ee em room same s =
    let o : e - b ≡ n = omega arith in
    let r : Retained bound ws 0 d (take (e - b) (drop b ys)) new 0 n n kept = rw em at s in
    let few = r.few in
    let long : length new ≡ n = r.frame.long ∙ (simp (length-take, length-drop) (omega arith)) in
    let head : length (take b ys) ≡ b = length-take-le b ys (omega arith) in
    record {
      many = r.many ∙ count_same bound xs ws p 0 n same;
      few = r.few;
      front =
          ap (take kept) (drop_at (take b ys) (new ++ drop (e - b) (drop b ys)) b head)
          ∙ take-append-le kept new (drop (e - b) (drop b ys)) (omega arith)
          ∙ r.front
          ∙ kept_same bound xs ws p 0 d ys (take (e - b) (drop b ys)) b 0 n same (λ i h. let z : 0 + i ≡ i = omega arith in ap (λ (k : ℕ). get_or (take (e - b) (drop b ys)) k d) z ∙ between_at ys b e i d (omega arith));
      rest = λ j h l. absurd (omega (arith, h, l));
      frame = record {
        front = take_at (take b ys) (new ++ drop (e - b) (drop b ys)) b head;
        back = drop-put_mid b (e - b) ys new (b + n) (omega arith) (omega arith) (long ∙ sym o);
        long = simp (length-append, length-drop) (omega (arith, head, long));
      };
    }

-- the same of the first `n` of `ys`
pub retained_first : {A : Type 0} (bound : Float) (ws xs : List Float) (p : ℕ) (d : A) (ys new : List A) (n kept m : ℕ) → m ≡ n → n ≤ length ys
    → ((i : ℕ) → i < n → get_or ws (0 + i) nan ≡ get_or xs (p + i) nan) → Retained bound ws 0 d (take n ys) new 0 m m kept → Retained bound xs p d ys (new ++ drop n ys) 0 n n kept
retained_first bound ws xs p d ys new n kept m em room same s =
    let o : n - 0 ≡ n = omega arith in
    subst (λ (k : ℕ). Retained bound xs p d ys (new ++ drop k ys) 0 n n kept) o
    (retained_slice bound ws xs p d ys new 0 n n kept m (omega arith) em room same (subst (λ (k : ℕ). Retained bound ws 0 d (take k ys) new 0 m m kept) (sym o) s))

-- the weights of a slice that stay, and those that go
pub staying_front : {bound : Float} {xs ws : List Float} {p j : ℕ} (n : ℕ) → ws ≡ take n (drop p xs) → j ≤ n → Staying bound xs p j → Staying bound ws 0 j
staying_front {bound} {xs} {ws} {p} {j} n e h s = rw e (record { stay = λ i l. rw (weight_front xs p n i (omega arith)) (s.stay i l) })

pub leaving_front : {bound : Float} {xs ws : List Float} {p from j : ℕ} (n : ℕ) → ws ≡ take n (drop p xs) → j ≤ n → Leaving bound xs p from j → Leaving bound ws 0 from j
leaving_front {bound} {xs} {ws} {p} {from} {j} n e h g = rw e (record { leave = λ i a l. rw (weight_front xs p n i (omega arith)) (g.leave i a l) })

pub staying_back : {bound : Float} {xs ws : List Float} {p j : ℕ} (n : ℕ) → ws ≡ take n (drop p xs) → j ≤ n → Staying bound ws 0 j → Staying bound xs p j
staying_back {bound} {xs} {ws} {p} {j} n e h s = record { stay = λ i l. rw (← weight_front xs p n i (omega arith), ← e) (s.stay i l) }

pub leaving_back : {bound : Float} {xs ws : List Float} {p from j : ℕ} (n : ℕ) → ws ≡ take n (drop p xs) → j ≤ n → Leaving bound ws 0 from j → Leaving bound xs p from j
leaving_back {bound} {xs} {ws} {p} {from} {j} n e h g = record { leave = λ i a l. rw (← weight_front xs p n i (omega arith), ← e) (g.leave i a l) }

pub staying_all : {bound : Float} {xs : List Float} {p i j : ℕ} → i ≡ j → Staying bound xs p i → Staying bound xs p j
staying_all {bound} {xs} {p} e s = subst (λ (k : ℕ). Staying bound xs p k) e s

-- what stands behind `xs`
behind_at : {A : Type 0} (xs ws : List A) (p i : ℕ) (d : A) → length xs ≡ p → get_or (xs ++ ws) (p + i) d ≡ get_or ws (0 + i) d
behind_at xs ws p i d e = let o : p + i - p ≡ 0 + i = omega arith in get_or-append_right xs ws p (p + i) d e (omega arith) ∙ ap (λ (k : ℕ). get_or ws k d) o

pub staying_behind : {bound : Float} (xs : List Float) {ws : List Float} {p j : ℕ} → length xs ≡ p → Staying bound ws 0 j → Staying bound (xs ++ ws) p j
staying_behind {bound} xs {ws} {p} e s = record { stay = λ i h. rw (behind_at xs ws p i nan e) (s.stay i h) }

-- the weights `ws` stand behind the parts `xs`, and the values behind `front`
pub retained_behind : {A : Type 0} (bound : Float) (xs ws : List Float) (p : ℕ) (d : A) (front us vs : List A) (b count kept : ℕ) → length xs ≡ p → length front ≡ b
    → Retained bound ws 0 d us vs 0 count count kept → Retained bound (xs ++ ws) p d (front ++ us) (front ++ vs) b count count kept
unfolding part
retained_behind {A} bound xs ws p d front us vs b count kept e l r =
    let o : 0 + count ≡ count = omega arith in
    let back : drop count vs ≡ drop count us = ap (λ (k : ℕ). drop k vs) (sym o) ∙ r.frame.back ∙ ap (λ (k : ℕ). drop k us) o in
    record {
      many = r.many ∙ count_same bound (xs ++ ws) ws p 0 count (λ i h. sym (behind_at xs ws p i nan e));
      few = r.few;
      front =
          ap (take kept) (drop_at front vs b l)
          ∙ r.front
          ∙ kept_same bound (xs ++ ws) ws p 0 d (front ++ us) us b 0 count (λ i h. sym (behind_at xs ws p i nan e)) (λ i h. sym (behind_at front us b i d l));
      rest = λ j h g. absurd (omega (arith, h, g));
      frame = record {
        front = take_at front vs b l ∙ sym (take_at front us b l);
        back = sym (drop-drop count b (front ++ vs)) ∙ ap (drop count) (drop_at front vs b l) ∙ back ∙ ap (drop count) (sym (drop_at front us b l)) ∙ drop-drop count b (front ++ us);
        long = length-append front vs ∙ ap (λ (k : ℕ). length front + k) r.frame.long ∙ sym (length-append front us);
      };
    }

pub leaving_none : (bound : Float) (xs : List Float) (p from : ℕ) → Leaving bound xs p from from
leaving_none bound xs p from = record { leave = λ i a z. absurd (none i a z) }
  where
    none : (i : ℕ) → from ≤ i → i < from → ⊥
    none i a z = omega (arith, a, z)

pub leaving_more : {bound : Float} {xs : List Float} {p from j : ℕ} (i : ℕ) → Leaving bound xs p from j → i ≡ p + j → (get_or xs i nan <ᶠ bound) ≡ false → Leaving bound xs p from (j + 1)
leaving_more {bound} {xs} {p} {from} {j} k g ek h = record { leave = λ i a l. ⊎_elim (λ q. ap (λ (n : ℕ). get_or xs n nan <ᶠ bound) (ap (λ (n : ℕ). p + n) q ∙ sym ek) ∙ h) (λ l. g.leave i a l) (eq-or-lt_of_le (le_of_suc-le-suc (rw add-one at l))) }

-- ---- part after part
pub runs_none : (bound : Float) (q : Plan) (xs : List Float) (count : ℕ) → RetainedRuns bound q xs xs count 0
runs_none bound q xs count = record { front = λ r h. absurd (not-suc-le-zero h); rest = λ r i h l g. absurd (not-suc-le-zero h); frame = frame_refl xs 0 _ }

pub runs_more : (bound : Float) (q : Plan) (xs ys zs : List Float) (count runs base kept : ℕ) → RetainedRuns bound q xs ys count runs → Retained bound ys q.p nan ys zs base count count kept
    → base ≡ runs * (q.n + 1) → count ≤ q.n → base + count ≤ q.p → RetainedRuns bound q xs zs count (runs + 1)
runs_more bound q xs ys zs count runs base kept r s e few room =
    let w = q.n + 1 in
    let parts : (i : ℕ) → i < count → get_or ys (q.p + i) nan ≡ get_or xs (q.p + i) nan = λ i h. at_back (q.p + i) nan r.frame (omega arith) in
    let values : (i : ℕ) → i < count → get_or ys (base + i) nan ≡ get_or xs (base + i) nan = λ i h. at_back (base + i) nan r.frame (omega arith) in
    let many : kept ≡ stay_count bound xs q.p count = s.many ∙ count_same bound xs ys q.p q.p count parts in
    let fewer = s.few in
    let here : part zs base (stay_count bound xs q.p count) ≡ kept_by bound xs q.p nan xs base count =
    ap (part zs base) (sym many) ∙ s.front ∙ kept_same bound xs ys q.p q.p nan xs ys base base count parts values in
    let wide : Frame ys zs 0 ((runs + 1) * w) = frame_wide 0 ((runs + 1) * w) s.frame (omega arith) (omega (arith, mul_more runs w)) in
    let narrow : Frame xs ys 0 ((runs + 1) * w) = frame_wide 0 ((runs + 1) * w) r.frame (omega arith) (omega (arith, mul_more runs w)) in
    record {
      front = λ k h. ⊎_elim
          (λ (o : k ≡ runs). subst (λ (i : ℕ). part zs i (stay_count bound xs q.p count) ≡ kept_by bound xs q.p nan xs i count) (e ∙ ap (λ (i : ℕ). i * w) (sym o)) here)
          (λ l. part_front (k * w) (stay_count bound xs q.p count) s.frame (omega (arith, mul_room k runs w l, many)) ∙ r.front k l)
          (eq-or-lt_of_le (le_of_suc-le-suc (rw add-one at h)));
      rest = λ k i h l g. ⊎_elim
          (λ q. at_back (k * w + i) nan s.frame (rw q (omega arith)) ∙ at_back (k * w + i) nan r.frame (rw q (omega arith)))
          (λ m. at_front (k * w + i) nan s.frame (omega (arith, mul_room k runs w m)) ∙ r.rest k i m l g)
          (eq-or-lt_of_le (le_of_suc-le-suc (rw add-one at h)));
      frame = frame_trans narrow wide;
    }

-- the same where the parts were split from the weights behind them
pub runs_slice : (bound : Float) (q : Plan) (xs parts behind new : List Float) (count runs base e kept m : ℕ) → RetainedRuns bound q xs (parts ++ behind) count runs → length parts ≡ q.p
    → Retained bound (take count behind) 0 nan (take (e - base) (drop base parts)) new 0 m m kept → base ≡ runs * (q.n + 1) → e ≡ base + count → m ≡ count → count ≤ q.n → e ≤ q.p → count ≤ length behind
    → RetainedRuns bound q xs (put_mid base (e - base) parts new ++ behind) count (runs + 1)
runs_slice bound q xs parts behind new count runs base e kept m r lp s eb ee em few room some =
    let ys : List Float = parts ++ behind in
    let long : length ys ≡ q.p + length behind = length-append parts behind ∙ ap (λ (k : ℕ). k + length behind) lp in
    let tail : drop base ys ≡ drop base parts ++ behind = drop-append-le base parts behind (omega arith) in
    let inner : length (drop base parts) ≡ q.p - base = simp length-drop (omega arith) in
    let slice : take (e - base) (drop base ys) ≡ take (e - base) (drop base parts) = ap (take (e - base)) tail ∙ take-append-le (e - base) (drop base parts) behind (omega arith) in
    let weights : take count behind ≡ take count (drop q.p ys) = ap (take count) (sym (drop_at parts behind q.p lp)) in
    let here : Retained bound ys q.p nan ys (put_mid base (e - base) ys new) base count count kept =
    retained_slice bound (take count (drop q.p ys)) ys q.p nan ys new base e count kept m ee em (omega arith) (λ i h. weight_front ys q.p count i h) (rw (slice, ← weights) s) in
    let same : put_mid base (e - base) ys new ≡ put_mid base (e - base) parts new ++ behind =
    ap₂ (λ (a b : List Float). a ++ (new ++ b)) (take-append-le base parts behind (omega arith)) (ap (drop (e - base)) tail ∙ drop-append-le (e - base) (drop base parts) behind (omega arith))
    ∙ ap (λ (l : List Float). take base parts ++ l) (sym (append_assoc new (drop (e - base) (drop base parts)) behind))
    ∙ sym (append_assoc (take base parts) (new ++ drop (e - base) (drop base parts)) behind) in
    subst (λ (l : List Float). RetainedRuns bound q xs l count (runs + 1)) same (runs_more bound q xs ys (put_mid base (e - base) ys new) count runs base kept r here eb few (omega arith))

-- where all stay nothing moves
pub runs_same : (bound : Float) (q : Plan) (xs : List Float) (count runs : ℕ) → Staying bound xs q.p count → count ≤ q.n → runs * (q.n + 1) ≤ length xs → RetainedRuns bound q xs xs count runs
runs_same bound q xs count runs s few room =
    record {
      front = λ r h. ap (part xs (r * (q.n + 1))) (sym (count_front bound xs q.p count s)) ∙ kept_front bound xs q.p nan xs (r * (q.n + 1)) count s (omega (arith, mul_room r runs (q.n + 1) h));
      rest = λ r i h l g. refl;
      frame = frame_refl xs 0 _;
    }

-- ---- what belongs to `t`, part after part
pub joined_none : (q : Plan) (xs : List Float) (place t : ℕ) → Joined q xs xs place t 0
joined_none q xs place t = record { here = λ r h. absurd (not-suc-le-zero h); rest = λ r i h l g. absurd (not-suc-le-zero h); frame = frame_refl xs 0 _ }

pub joined_more : (q : Plan) (xs ys : List Float) (place t runs base k : ℕ) (v : Float) → Joined q xs ys place t runs → base ≡ runs * (q.n + 1) → k ≡ base + place → k < length ys
    → place ≤ q.n → v ≡ get_or ys (base + t) nan → Joined q xs (set ys k v) place t (runs + 1)
joined_more q xs ys place t runs base k v r e ek room few ev =
    let w = q.n + 1 in
    let here : get_or (set ys k v) (base + place) nan ≡ get_or xs (base + t) nan =
    ap (λ (i : ℕ). get_or (set ys k v) i nan) (sym ek) ∙ get_or-set_same ys k v nan room ∙ ev ∙ at_back (base + t) nan r.frame (omega arith) in
    record {
      here = λ i h. ⊎_elim
          (λ (o : i ≡ runs). subst (λ (b : ℕ). get_or (set ys k v) (b + place) nan ≡ get_or xs (b + t) nan) (e ∙ ap (λ (b : ℕ). b * w) (sym o)) here)
          (λ l. get_or-set_other ys k (i * w + place) v nan (omega (arith, mul_room i runs w l)) ∙ r.here i l)
          (eq-or-lt_of_le (le_of_suc-le-suc (rw add-one at h)));
      rest = λ i j h l g. ⊎_elim
          (λ q. get_or-set_other ys k (i * w + j) v nan (rw q (omega (arith, g))) ∙ at_back (i * w + j) nan r.frame (rw q (omega arith)))
          (λ m. get_or-set_other ys k (i * w + j) v nan (omega (arith, mul_room i runs w m)) ∙ r.rest i j m l g)
          (eq-or-lt_of_le (le_of_suc-le-suc (rw add-one at h)));
      frame = frame_set k v (frame_wide 0 ((runs + 1) * w) r.frame (omega arith) (omega (arith, mul_more runs w))) (omega arith) (omega (arith, mul_more runs w));
    }

-- the same with the weights `ws` behind the parts
pub joined_behind : (q : Plan) (xs ys ws : List Float) (place t runs : ℕ) → Joined q xs ys place t runs → runs * (q.n + 1) ≤ length xs → place ≤ q.n → t ≤ q.n → Joined q (xs ++ ws) (ys ++ ws) place t runs
joined_behind q xs ys ws place t runs r room few early =
    let w = q.n + 1 in
    let long = r.frame.long in
    record {
      here = λ i h. get_or_append_left ys ws nan (i * w + place) (omega (arith, long, mul_room i runs w h)) ∙ r.here i h ∙ sym (get_or_append_left xs ws nan (i * w + t) (omega (arith, mul_room i runs w h)));
      rest = λ i j h l g. get_or_append_left ys ws nan (i * w + j) (omega (arith, long, mul_room i runs w h)) ∙ r.rest i j h l g ∙ sym (get_or_append_left xs ws nan (i * w + j) (omega (arith, mul_room i runs w h)));
      frame = record {
        front = refl;
        back = drop-append-le (0 + runs * w) ys ws (omega (arith, long)) ∙ ap (λ (l : List Float). l ++ ws) r.frame.back ∙ sym (drop-append-le (0 + runs * w) xs ws (omega arith));
        long = length-append ys ws ∙ ap (λ (k : ℕ). k + length ws) long ∙ sym (length-append xs ws);
      };
    }
