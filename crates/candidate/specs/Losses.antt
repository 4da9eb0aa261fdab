-- Which of the balls in which a candidate loses it keeps. Rule 3.13. Definitions only.
use Rattle.std.specs.Prelude.{ℕ, zero, suc, cond, List, [], ◌∷◌, ◌++◌, ltb, length, set}
use Rattle.floats.specs.Numbers.{◌≤ᶠ◌, +0}
use Rattle.candidate_balls.specs.declared.Ball.{Ball}
use Rattle.candidate.specs.Balls.{ball_at}
-- the order of radii; how many balls a candidate keeps
unfoldable pub use Rattle.floats.specs.Ahead.{ahead}
pub use Rattle.candidate_balls.specs.Losing.{losing_balls}

-- which of the first i + 1 balls is the narrowest, from 0, the earliest on a tie
unfoldable pub narrowest_to : List Ball → ℕ → ℕ
narrowest_to bs zero = 0
narrowest_to bs (suc i) = let j = narrowest_to bs i in cond (ahead (ball_at bs (suc i)).r2 (ball_at bs j).r2) (suc i) j

-- a 65th is turned away if its radius compares at or below the narrowest one's; otherwise the last ball takes the place of the narrowest and the new one goes last
unfoldable pub displace : Ball → List Ball → List Ball
displace b bs = let i = narrowest_to bs 63 in cond (b.r2 ≤ᶠ (ball_at bs i).r2) bs (set (set bs i (ball_at bs 63)) 63 b)

-- `lose_inside`: an empty ball is not kept; one that is no number is
unfoldable pub lose_inside : Ball → List Ball → List Ball
lose_inside b bs = cond (b.r2 ≤ᶠ +0) bs (cond (ltb (length bs) losing_balls) (bs ++ (b ∷ [])) (displace b bs))
