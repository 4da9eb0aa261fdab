-- Laws of the losing balls in an area: the room, the narrowest, and the ways through `lose_inside`. Assumes nothing.
use Prim.Native.Nat.{ℕ, zero, suc, ◌+◌, ◌-◌, ◌≤◌, ◌<◌}
use mathlib.Core.Bool.{Bool, true, false, cond}
use mathlib.Core.Path.{◌≡◌, refl, ◌∙◌}
use mathlib.Core.List.{List}
use borrow.Author.Tests.{leb-true, lt-ltb, le-ltb}
use native.Mathlib.Omega.{arith}
use lib.ListN.{length, get_or}
use lib.Ieee.{Float, nan}
use Rattle.logic.proofs.Laws.{both}
use Rattle.floats.specs.Numbers.{◌≤ᶠ◌, +0}
use Rattle.floats.specs.Ahead.{ahead}
use Rattle.candidate_balls.specs.declared.Ball.{Ball}
use Rattle.candidate_balls.specs.Losing.{has_room, radius_at, narrowest_in, put_ball, copy_last, second_number, displaced, area_with, count_with, Lost}

-- ---- the room
pub room_fits : (size place count : ℕ) → has_room size place count ≡ true → (place + 192 ≤ size) × (count ≤ 64)
unfolding has_room
room_fits size place count e = let b = both _ _ e in (leb-true (place + 192) size b.1, leb-true count 64 b.0)

-- ---- the narrowest
pub narrowest_within : (area : List Float) (place n : ℕ) → narrowest_in area place n ≤ n
unfolding narrowest_in
narrowest_within area place zero = omega arith
narrowest_within area place (suc n) = side (ahead (radius_at area place (suc n)) (radius_at area place (narrowest_in area place n))) (narrowest_within area place n)
  where
    side : (t : Bool) → narrowest_in area place n ≤ n → cond t (suc n) (narrowest_in area place n) ≤ suc n
    side true h = omega arith
    side false h = omega arith

-- one ball more
module _ (area : List Float) (place i j : ℕ) (some : 1 ≤ i) (ej : j ≡ narrowest_in area place (i - 1)) {b : Bool} (eb : b ≡ ahead (radius_at area place i) (radius_at area place j)) where
  next : i + 1 - 1 ≡ suc (i - 1)
  next = omega arith

  same : suc (i - 1) ≡ i
  same = omega arith

  pub narrower : b ≡ true → i ≡ narrowest_in area place (i + 1 - 1)
  unfolding narrowest_in
  narrower t = rw next (rw (same, ← ej, ← eb, t) refl)

  pub not_narrower : b ≡ false → j ≡ narrowest_in area place (i + 1 - 1)
  unfolding narrowest_in
  not_narrower t = rw next (rw (same, ← ej, ← eb, t) refl)

-- ---- one more for 64
module _ (area : List Float) (place : ℕ) (c d r2 : Float) {i : ℕ} (ei : i ≡ narrowest_in area place 63) where
  pub displaced_not : (r2 ≤ᶠ radius_at area place i) ≡ true → area ≡ displaced area place c d r2
  unfolding displaced
  displaced_not e = rw (← ei, e) refl

  pub displaced_so : {k l m : Float} {y z : List Float} → (r2 ≤ᶠ radius_at area place i) ≡ false → y ≡ copy_last area place i → k ≡ c → l ≡ d → m ≡ r2 → z ≡ put_ball y place 63 k l m → z ≡ displaced area place c d r2
  unfolding displaced
  displaced_so e ey ek el em ez = ez ∙ (rw (ek, el, em, ey, ← ei, e) refl)

-- ---- the ways through `lose_inside`
module _ {channels : ℕ} {area : List Float} {place count : ℕ} {b : Ball} where
  pub lost_not : has_room (length area) place count ≡ false → Lost channels area area place count b count
  lost_not e = record { left = rw e refl; said = rw e refl }

  module _ (room : has_room (length area) place count ≡ true) where
    pub lost_empty : (b.r2 ≤ᶠ +0) ≡ true → Lost channels area area place count b count
    unfolding area_with count_with
    lost_empty e = record { left = rw (room, e) refl; said = rw (room, e) refl }

    pub lost_more : {k l m : Float} {y : List Float} → (b.r2 ≤ᶠ +0) ≡ false → count < 64 → k ≡ get_or b.centre 0 nan → l ≡ second_number channels (get_or b.centre 1 nan) b.r2 → m ≡ b.r2 → y ≡ put_ball area place count k l m
        → Lost channels area y place count b (count + 1)
    unfolding area_with count_with
    lost_more e h ek el em ey = record { left = ey ∙ (rw (ek, el, em, room, e, lt-ltb count 64 h) refl); said = rw (room, e, lt-ltb count 64 h) refl }

    pub lost_full : {y : List Float} → (b.r2 ≤ᶠ +0) ≡ false → 64 ≤ count → y ≡ displaced area place (get_or b.centre 0 nan) (second_number channels (get_or b.centre 1 nan) b.r2) b.r2 → Lost channels area y place count b count
    unfolding area_with count_with
    lost_full e h ey = record { left = ey ∙ (rw (room, e, le-ltb count 64 h) refl); said = rw (room, e, le-ltb count 64 h) refl }
