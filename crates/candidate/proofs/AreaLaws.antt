-- What `lose_inside` does in an area, in the words of the list of balls that the area stands for: that list is the definition's, nothing else changes, and the roots stay roots. Assumes nothing.
use Prim.Native.Nat.{ℕ, zero, suc, ◌+◌, ◌≤◌, ◌<◌}
use mathlib.Core.Bool.{Bool, true, false, ◌||◌, cond, false≢true}
use mathlib.Core.Logic.{◌≢◌}
use mathlib.Core.Path.{◌≡◌, refl, sym, ap, ap₂, ◌∙◌, subst}
use mathlib.Core.List.{[], List, ◌∷◌, ◌++◌}
use borrow.Author.Tests.{eq-eqb, ltb-true, ltb-false}
use native.Mathlib.Decide.{ℕ_discrete}
use native.Mathlib.Omega.{arith}
use lib.Dec.{ltb, eqb}
use lib.ListN.{length, get_or, set, length-set}
use lib.Seq.{get_or-set_other, get_or-set_same, ext_get_or}
use lib.Ieee.{Float, nan, lt, eq, le}
use Rattle.floats.specs.Numbers.{◌-ᶠ◌, ◌<ᶠ◌, ◌≤ᶠ◌, +0}
use Rattle.elementary.specs.Root.{sqrt}
use Rattle.areas.specs.Parts.{tab, Frame}
use Rattle.areas.proofs.PartLaws.{tab_same, tab_length, tab_at, tab_more, frame_refl, frame_set}
use Rattle.candidate_balls.specs.declared.Ball.{Ball}
use Rattle.candidate_balls.specs.Losing.{radius_at, narrowest_in, put_ball, copy_last, displaced, second_number, area_with, count_with, Lost}
use Rattle.candidate_balls.proofs.LosingLaws.{room_fits, narrowest_within}
use Rattle.candidate.specs.Boxes.{at, ball_of}
use Rattle.candidate.specs.Balls.{ball_at, held_at, meant, balls_at, Rooted, has_room}
use Rattle.candidate.specs.Losses.{narrowest_to, displace, lose_inside}

-- ---- tables
tab_set : {A : Type 0} (g h : ℕ → A) (n i : ℕ) (v : A) → h i ≡ v → ((j : ℕ) → j < n → j ≢ i → h j ≡ g j) → tab h n ≡ set (tab g n) i v
tab_set {A} g h n i v e f =
    ext_get_or v (tab h n) (set (tab g n) i v) (tab_length h n ∙ sym (length-set (tab g n) i v ∙ tab_length g n))
    (λ j l. go j (rw (tab_length h n) at l) (ℕ_discrete j i))
  where
    go : (j : ℕ) → j < n → Dec (j ≡ i) → get_or (tab h n) j v ≡ get_or (set (tab g n) i v) j v
    go j l (yes q) = tab_at h n j v l ∙ (rw q (e ∙ sym (get_or-set_same (tab g n) i v v (rw (tab_length g n) (rw q at l)))))
    go j l (no q) = tab_at h n j v l ∙ f j l q ∙ sym (get_or-set_other (tab g n) i j v v q ∙ tab_at g n j v l)

-- ---- one ball put
module _ (area : List Float) (place i : ℕ) (c d r2 : Float) (room : place + 192 ≤ length area) (few : i < 64) where
  put_beside : (m : ℕ) → m ≢ place + i → m ≢ place + 64 + i → m ≢ place + 128 + i → get_or (put_ball area place i c d r2) m nan ≡ get_or area m nan
  unfolding put_ball
  put_beside m e f g =
      get_or-set_other (set (set area (place + i) c) (place + 64 + i) d) (place + 128 + i) m r2 nan g
      ∙ get_or-set_other (set area (place + i) c) (place + 64 + i) m d nan f
      ∙ get_or-set_other area (place + i) m c nan e

  pub put_other : (j : ℕ) → j < 64 → j ≢ i → held_at (put_ball area place i c d r2) place j ≡ held_at area place j
  unfolding held_at
  put_other j h ne =
      rw (put_beside (place + j) (omega arith) (omega arith) (omega arith), put_beside (place + 64 + j) (omega arith) (omega arith) (omega arith), put_beside (place + 128 + j) (omega arith) (omega arith) (omega arith)) refl

  pub put_same : held_at (put_ball area place i c d r2) place i ≡ ball_of c d r2
  unfolding held_at put_ball
  put_same =
      let x = set area (place + i) c in
      let y = set x (place + 64 + i) d in
      let one : get_or (set y (place + 128 + i) r2) (place + i) nan ≡ c =
      get_or-set_other y (place + 128 + i) (place + i) r2 nan (omega arith) ∙ get_or-set_other x (place + 64 + i) (place + i) d nan (omega arith) ∙ get_or-set_same area (place + i) c nan (omega arith) in
      let two : get_or (set y (place + 128 + i) r2) (place + 64 + i) nan ≡ d =
      get_or-set_other y (place + 128 + i) (place + 64 + i) r2 nan (omega arith) ∙ get_or-set_same x (place + 64 + i) d nan (simp length-set (omega arith)) in
      let three : get_or (set y (place + 128 + i) r2) (place + 128 + i) nan ≡ r2 =
      get_or-set_same y (place + 128 + i) r2 nan (simp length-set (omega arith)) in
      rw (one, two, three) refl

  pub put_frame : {x : List Float} → Frame x area place 192 → Frame x (put_ball area place i c d r2) place 192
  unfolding put_ball
  put_frame f =
      frame_set (place + 128 + i) r2 (frame_set (place + 64 + i) d (frame_set (place + i) c f (omega arith) (omega arith)) (omega arith) (omega arith)) (omega arith) (omega arith)

-- the last ball by its numbers, and the radius of a ball
last_held : (area : List Float) (place : ℕ) → ball_of (get_or area (place + 63) nan) (get_or area (place + 64 + 63) nan) (radius_at area place 63) ≡ held_at area place 63
unfolding held_at
last_held area place = refl

held_radius : (area : List Float) (place i : ℕ) → (held_at area place i).r2 ≡ radius_at area place i
unfolding held_at
held_radius area place i = refl

copy_frame : (area : List Float) (place i : ℕ) → place + 192 ≤ length area → i < 64 → Frame area (copy_last area place i) place 192
unfolding copy_last
copy_frame area place i room few = put_frame area place i _ _ _ room few (frame_refl area place 192)

-- ---- the narrowest
narrowest_is : (bs : List Ball) (area : List Float) (place n : ℕ) → ((j : ℕ) → j ≤ n → (ball_at bs j).r2 ≡ radius_at area place j) → narrowest_to bs n ≡ narrowest_in area place n
unfolding narrowest_to narrowest_in
narrowest_is bs area place zero e = refl
narrowest_is bs area place (suc n) e =
    let s = narrowest_is bs area place n (λ j h. e j (omega arith)) in
    rw (s, e (suc n) (omega arith), e (narrowest_in area place n) (omega (arith, narrowest_within area place n))) refl

-- ---- the definition, once its tests are known
displace_by : (b : Ball) (bs : List Ball) (i : ℕ) (t : Bool) → narrowest_to bs 63 ≡ i → (b.r2 ≤ᶠ (ball_at bs i).r2) ≡ t → displace b bs ≡ cond t bs (set (set bs i (ball_at bs 63)) 63 b)
unfolding displace
displace_by b bs i t e f = rw (e, f) refl

lose_by : (b : Ball) (bs : List Ball) (s t : Bool) → (b.r2 ≤ᶠ +0) ≡ s → ltb (length bs) 64 ≡ t → lose_inside b bs ≡ cond s bs (cond t (bs ++ (b ∷ [])) (displace b bs))
unfolding lose_inside
lose_by b bs s t e f = rw (e, f) refl

-- ---- the list, as any view of the balls sees it that keeps the radii
module _ (view : Ball → Ball) (keeps : (b : Ball) → (view b).r2 ≡ b.r2) (area : List Float) (place : ℕ) (room : place + 192 ≤ length area) (c d r2 : Float) where
  abbrev seen : List Float → ℕ → List Ball
  seen xs n = tab (λ i. view (held_at xs place i)) n

  seen_at : (n i : ℕ) → i < n → ball_at (seen area n) i ≡ view (held_at area place i)
  seen_at n i h = tab_at (λ j. view (held_at area place j)) n i _ h

  seen_put : (xs : List Float) (i : ℕ) (c d r2 : Float) → place + 192 ≤ length xs → i < 64 → seen (put_ball xs place i c d r2) 64 ≡ set (seen xs 64) i (view (ball_of c d r2))
  seen_put xs i c d r2 h l =
      tab_set (λ j. view (held_at xs place j)) (λ j. view (held_at (put_ball xs place i c d r2) place j)) 64 i _ (ap view (put_same xs place i c d r2 h l)) (λ j m ne. ap view (put_other xs place i c d r2 h l j m ne))

  seen_last : (i : ℕ) → i < 64 → seen (copy_last area place i) 64 ≡ set (seen area 64) i (ball_at (seen area 64) 63)
  unfolding copy_last
  seen_last i h = seen_put area i _ _ _ room h ∙ ap (set (seen area 64) i) (ap view (last_held area place) ∙ sym (seen_at 64 63 (omega arith)))

  seen_radius : (i : ℕ) → i < 64 → (ball_at (seen area 64) i).r2 ≡ radius_at area place i
  seen_radius i h = ap (λ (b : Ball). b.r2) (seen_at 64 i h) ∙ keeps (held_at area place i) ∙ held_radius area place i

  full : seen (displaced area place c d r2) 64 ≡ displace (view (ball_of c d r2)) (seen area 64)
  unfolding displaced
  full =
      let i = narrowest_in area place 63 in
      let h : i < 64 = omega (arith, narrowest_within area place 63) in
      side i h (r2 ≤ᶠ radius_at area place i)
      ∙ sym (displace_by (view (ball_of c d r2)) (seen area 64) i (r2 ≤ᶠ radius_at area place i) (narrowest_is (seen area 64) area place 63 (λ j l. seen_radius j (omega arith))) (ap₂ ◌≤ᶠ◌ (keeps (ball_of c d r2)) (seen_radius i h)))
    where
      side : (i : ℕ) → i < 64 → (t : Bool) → seen (cond t area (put_ball (copy_last area place i) place 63 c d r2)) 64
          ≡ cond t (seen area 64) (set (set (seen area 64) i (ball_at (seen area 64) 63)) 63 (view (ball_of c d r2)))
      side i h true = refl
      side i h false =
          seen_put (copy_last area place i) 63 c d r2 (rw (copy_frame area place i room h).long room) (omega arith)
          ∙ ap (λ (l : List Ball). set l 63 (view (ball_of c d r2))) (seen_last i h)

  pushed : (count : ℕ) → count < 64 → seen (put_ball area place count c d r2) (count + 1) ≡ seen area count ++ (view (ball_of c d r2) ∷ [])
  pushed count h =
      tab_more (λ j. view (held_at (put_ball area place count c d r2) place j)) count
      ∙ ap₂ (λ (l : List Ball) (b : Ball). l ++ (b ∷ []))
      (tab_same (λ j. view (held_at (put_ball area place count c d r2) place j)) (λ j. view (held_at area place j)) count
      (λ j l. ap view (put_other area place count c d r2 room h j (omega arith) (omega arith))))
      (ap view (put_same area place count c d r2 room h))

  pub seen_lost : (count : ℕ) → count ≤ 64 → seen (area_with area place count c d r2) (count_with count r2) ≡ lose_inside (view (ball_of c d r2)) (seen area count)
  unfolding area_with count_with
  seen_lost count h =
      side (r2 ≤ᶠ +0) (ltb count 64) refl
      ∙ sym (lose_by (view (ball_of c d r2)) (seen area count) (r2 ≤ᶠ +0) (ltb count 64) (ap (λ (x : Float). x ≤ᶠ +0) (keeps (ball_of c d r2)))
      (ap (λ (n : ℕ). ltb n 64) (tab_length (λ j. view (held_at area place j)) count)))
    where
      side : (s t : Bool) → ltb count 64 ≡ t
          → seen (cond s area (cond t (put_ball area place count c d r2) (displaced area place c d r2))) (cond s count (cond t (count + 1) count))
          ≡ cond s (seen area count) (cond t (seen area count ++ (view (ball_of c d r2) ∷ [])) (displace (view (ball_of c d r2)) (seen area count)))
      side true t e = refl
      side false true e = pushed count (ltb-true count 64 e)
      side false false e =
          let k : 64 ≡ count = omega (arith, ltb-false count 64 e) in
          subst (λ (n : ℕ). seen (displaced area place c d r2) n ≡ displace (view (ball_of c d r2)) (seen area n)) k full

-- ---- nothing else changes, and there are at most 64
with_frame : (area : List Float) (place count : ℕ) (c d r2 : Float) → place + 192 ≤ length area → Frame area (area_with area place count c d r2) place 192
unfolding area_with displaced
with_frame area place count c d r2 room =
    side (r2 ≤ᶠ +0) (ltb count 64) refl (narrowest_in area place 63) (omega (arith, narrowest_within area place 63)) (r2 ≤ᶠ radius_at area place (narrowest_in area place 63))
  where
    side : (s t : Bool) → ltb count 64 ≡ t → (i : ℕ) → i < 64 → (u : Bool)
        → Frame area (cond s area (cond t (put_ball area place count c d r2) (cond u area (put_ball (copy_last area place i) place 63 c d r2)))) place 192
    side true t e i h u = frame_refl area place 192
    side false true e i h u = put_frame area place count c d r2 room (ltb-true count 64 e) (frame_refl area place 192)
    side false false e i h true = frame_refl area place 192
    side false false e i h false =
        let f = copy_frame area place i room h in
        put_frame (copy_last area place i) place 63 c d r2 (rw f.long room) (omega arith) f

with_few : (count : ℕ) (r2 : Float) → count ≤ 64 → count_with count r2 ≤ 64
unfolding count_with
with_few count r2 h = side (r2 ≤ᶠ +0) (ltb count 64) refl
  where
    side : (s t : Bool) → ltb count 64 ≡ t → cond s count (cond t (count + 1) count) ≤ 64
    side true t e = h
    side false true e = omega (arith, ltb-true count 64 e)
    side false false e = h

-- ---- what holds of the balls there and of the new one, holds of all
module _ (Q : Ball → Type 0) (place : ℕ) where
  put_all : (xs : List Float) (i : ℕ) (c d r2 : Float) → place + 192 ≤ length xs → i < 64 → Q (ball_of c d r2) → (j : ℕ) → j < 64 → (j ≢ i → Q (held_at xs place j)) → Q (held_at (put_ball xs place i c d r2) place j)
  put_all xs i c d r2 h l q j m f = go (ℕ_discrete j i)
    where
      go : Dec (j ≡ i) → Q (held_at (put_ball xs place i c d r2) place j)
      go (yes e) = rw (e, put_same xs place i c d r2 h l) q
      go (no n) = rw (put_other xs place i c d r2 h l j m n) (f n)

  copy_all : (area : List Float) (i : ℕ) → place + 192 ≤ length area → i < 64 → ((j : ℕ) → j < 64 → Q (held_at area place j)) → (j : ℕ) → j < 64 → Q (held_at (copy_last area place i) place j)
  unfolding copy_last
  copy_all area i room l all j h = put_all area i _ _ _ room l (rw (last_held area place) (all 63 (omega arith))) j h (λ n. all j h)

  with_all : (area : List Float) (count : ℕ) (c d r2 : Float) → place + 192 ≤ length area → count ≤ 64 → ((i : ℕ) → i < count → Q (held_at area place i)) → ((r2 ≤ᶠ +0) ≡ false → Q (ball_of c d r2))
      → (j : ℕ) → j < count_with count r2 → Q (held_at (area_with area place count c d r2) place j)
  unfolding area_with count_with displaced
  with_all area count c d r2 room few all new j h =
      side (r2 ≤ᶠ +0) (ltb count 64) (narrowest_in area place 63) (r2 ≤ᶠ radius_at area place (narrowest_in area place 63)) refl refl (omega (arith, narrowest_within area place 63)) h
    where
      side : (s t : Bool) (i : ℕ) (u : Bool) → (r2 ≤ᶠ +0) ≡ s → ltb count 64 ≡ t → i < 64 → j < cond s count (cond t (count + 1) count)
          → Q (held_at (cond s area (cond t (put_ball area place count c d r2) (cond u area (put_ball (copy_last area place i) place 63 c d r2)))) place j)
      side true t i u e f l g = all j g
      side false true i u e f l g = put_all area count c d r2 room (ltb-true count 64 f) (new e) j (omega (arith, ltb-true count 64 f)) (λ n. all j (omega arith))
      side false false i true e f l g = all j g
      side false false i false e f l g =
          put_all (copy_last area place i) 63 c d r2 (rw (copy_frame area place i room l).long room) (omega arith) (new e) j (omega arith)
          (λ n. copy_all area i room l (λ k m. all k (omega (arith, ltb-false count 64 f))) j (omega arith))

-- a ball that is not at or below 0 is not below it
not_below : (x : Float) → (x ≤ᶠ +0) ≡ false → (x <ᶠ +0) ≡ false
unfolding le
not_below x e = side (lt x +0) (eq x +0) e
  where
    side : (s t : Bool) → (s || t) ≡ false → s ≡ false
    side false t e = refl
    side true t e = absurd (false≢true (sym e))

-- ---- what is meant by a ball is what was meant, whatever stands for its second number on one channel
meant_kept : (channels : ℕ) (b : Ball) → meant channels (ball_of (at b.centre 0) (second_number channels (at b.centre 1) b.r2) b.r2) ≡ meant channels b
unfolding meant second_number
meant_kept channels b = side (eqb channels 1)
  where
    side : (t : Bool) → ball_of (at b.centre 0) (cond t +0 (cond t (sqrt (b.r2 -ᶠ +0)) (at b.centre 1))) b.r2 ≡ ball_of (at b.centre 0) (cond t +0 (at b.centre 1)) b.r2
    side true = refl
    side false = refl

meant_keeps : (channels : ℕ) (b : Ball) → (meant channels b).r2 ≡ b.r2
unfolding meant
meant_keeps channels b = refl

-- ---- what `lose_inside` promises, with room
module _ {channels : ℕ} {before after : List Float} {place count : ℕ} {b : Ball} {r : ℕ} (room : has_room (length before) place count ≡ true) (l : Lost channels before after place count b r) where
  left_so : after ≡ area_with before place count (at b.centre 0) (second_number channels (at b.centre 1) b.r2) b.r2
  left_so = l.left ∙ (rw room refl)

  said_so : r ≡ count_with count b.r2
  said_so = l.said ∙ (rw room refl)

  fits : (place + 192 ≤ length before) × (count ≤ 64)
  fits = room_fits (length before) place count room

  -- the list that the area stands for is the definition's
  pub lost_balls : balls_at channels after place r ≡ lose_inside (meant channels b) (balls_at channels before place count)
  unfolding balls_at
  lost_balls =
      rw (left_so, said_so)
      (seen_lost (meant channels) (meant_keeps channels) before place fits.0 (at b.centre 0) (second_number channels (at b.centre 1) b.r2) b.r2 count fits.1
      ∙ ap (λ (k : Ball). lose_inside k (tab (λ i. meant channels (held_at before place i)) count)) (meant_kept channels b))

  pub lost_frame : Frame before after place 192
  lost_frame = rw left_so (with_frame before place count (at b.centre 0) (second_number channels (at b.centre 1) b.r2) b.r2 fits.0)

  pub lost_few : r ≤ 64
  lost_few = rw said_so (with_few count b.r2 fits.1)

  -- on one channel the roots stay roots
  pub lost_rooted : channels ≡ 1 → ((i : ℕ) → i < count → Rooted (held_at before place i)) → (i : ℕ) → i < r → Rooted (held_at after place i)
  unfolding second_number
  lost_rooted one all i h =
      rw left_so
      (with_all Rooted place before count (at b.centre 0) (second_number channels (at b.centre 1) b.r2) b.r2 fits.0 fits.1 all (λ e. record { root = rw (eq-eqb channels 1 one) refl; above = not_below b.r2 e }) i (rw said_so at h))
