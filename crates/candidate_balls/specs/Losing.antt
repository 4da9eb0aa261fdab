-- The losing balls in an area: three runs of 64, which begin at `place`, of the first numbers of the centres, the second numbers, and the squares of the radii. Rule 3.13. Definitions only.
use Rattle.std.specs.Prelude.{ℕ, zero, suc, ◌+◌, ◌*◌, Bool, ◌&&◌, cond, ◌≡◌, List, eqb, ltb, leb, length, get_or, set, Float}
use Rattle.std.specs.Float.{nan}
use Rattle.floats.specs.Numbers.{◌-ᶠ◌, ◌≤ᶠ◌, +0}
use Rattle.floats.specs.Ahead.{ahead}
use Rattle.elementary.specs.Root.{sqrt}
use Rattle.candidate_balls.specs.declared.Ball.{Ball}

-- how many balls a candidate keeps
abbrev pub losing_balls : ℕ
losing_balls = 64

-- an area of `size` floats has room for the three runs at `place`, and `count` is at most 64
unfoldable pub has_room : ℕ → ℕ → ℕ → Bool
has_room size place count = leb count losing_balls && leb (place + 3 * losing_balls) size

-- the square of the radius of ball i
abbrev pub radius_at : List Float → ℕ → ℕ → Float
radius_at area place i = get_or area (place + 2 * losing_balls + i) nan

-- which of the first i + 1 balls is the narrowest, from 0, the earliest on a tie
unfoldable pub narrowest_in : List Float → ℕ → ℕ → ℕ
narrowest_in area place zero = 0
narrowest_in area place (suc i) = let j = narrowest_in area place i in cond (ahead (radius_at area place (suc i)) (radius_at area place j)) (suc i) j

-- the area with a ball of these three numbers as ball i, and with the last of 64 as ball i
unfoldable pub put_ball : List Float → ℕ → ℕ → Float → Float → Float → List Float
put_ball area place i c d r2 = set (set (set area (place + i) c) (place + losing_balls + i) d) (place + 2 * losing_balls + i) r2

unfoldable pub copy_last : List Float → ℕ → ℕ → List Float
copy_last area place i = put_ball area place i (get_or area (place + 63) nan) (get_or area (place + losing_balls + 63) nan) (radius_at area place 63)

-- what stands for the second number of a ball's centre, d: on one channel the root that cutting takes, of r2 less a rest of +0
unfoldable pub second_number : ℕ → Float → Float → Float
second_number channels d r2 = cond (eqb channels 1) (sqrt (r2 -ᶠ +0)) d

-- one more ball for 64: turned away if its radius compares at or below the narrowest one's; otherwise the last ball moves into the freed place and the new one goes last
unfoldable pub displaced : List Float → ℕ → Float → Float → Float → List Float
displaced area place c d r2 =
    let i = narrowest_in area place 63 in
    cond (r2 ≤ᶠ radius_at area place i) area (put_ball (copy_last area place i) place 63 c d r2)

-- the area, and the number of balls, once the ball is among them; an empty ball is not kept, one that is no number is
unfoldable pub area_with : List Float → ℕ → ℕ → Float → Float → Float → List Float
area_with area place count c d r2 = cond (r2 ≤ᶠ +0) area (cond (ltb count losing_balls) (put_ball area place count c d r2) (displaced area place c d r2))

unfoldable pub count_with : ℕ → Float → ℕ
count_with count r2 = cond (r2 ≤ᶠ +0) count (cond (ltb count losing_balls) (count + 1) count)

-- what `lose_inside` leaves and says: the area and the number of balls with ball b among them where there is room, and otherwise what was
pub record Lost (channels : ℕ) (before after : List Float) (place count : ℕ) (b : Ball) (r : ℕ) : Type 0 where
  pub left : after ≡ cond (has_room (length before) place count) (area_with before place count (get_or b.centre 0 nan) (second_number channels (get_or b.centre 1 nan) b.r2) b.r2) before
  pub said : r ≡ cond (has_room (length before) place count) (count_with count b.r2) count
