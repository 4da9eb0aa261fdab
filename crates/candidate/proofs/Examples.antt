-- A few boxes that balls narrow and cut, boxes of which something or nothing is left, and balls that are kept, by computation. Assumes nothing.
use mathlib.Core.Bool.{true, false}
use mathlib.Core.Path.{◌≡◌, refl}
use Prim.Native.Nat.{ℕ}
use mathlib.Core.List.{List, [], ◌∷◌}
use lib.Ieee.{Float, nan, neg, add, sub, mul, lt, le, eq, ne, is_nan, of_int}
use Rattle.floats.specs.Numbers.{+0, +∞, -∞, of_whole}
use Rattle.floats.specs.MaxMin.{larger, smaller}
use Rattle.elementary.specs.Root.{sqrt, near_root, whole_root, root_from}
use Rattle.candidate_balls.specs.declared.Ball.{Ball}
use Rattle.candidate.specs.declared.Candidate.{Candidate}
use Rattle.candidate.specs.Boxes.{ball_of, over_channels, along_each, span_at, with_span, gap2, narrowed, missed, nothing, restrict}
use Rattle.candidate.specs.Cuts.{far2, inside, moved, cut_ends, cut_span, cut_by, cut_to, cut_losing}
use Rattle.candidate.specs.Dominated.{is_dominated}
use Rattle.candidate.specs.Losses.{ahead, narrowest_to, lose_inside}

-- a box by its ends along each channel
abbrev pub box_of : Float → Float → Float → Float → Candidate
box_of a b c d = record { lo = a ∷ c ∷ []; hi = b ∷ d ∷ [] }

-- from 0 to 10 along the first channel, and from 0 to 8 along the second
-- what a ball narrows, opened: to unfold it is to unfold all that the line names
narrowing : ℕ → Ball → Candidate → Candidate
unfolding restrict over_channels along_each span_at with_span gap2 narrowed missed nothing larger smaller sqrt near_root whole_root root_from add sub mul lt eq ne of_int
narrowing channels ball box = restrict channels ball box

-- what losing balls cut, opened: to unfold it is to unfold all that the line names
cutting : ℕ → List Ball → Candidate → Candidate
unfolding cut_losing cut_to cut_by over_channels along_each span_at with_span far2 cut_span cut_ends moved inside larger sqrt near_root whole_root root_from add sub mul lt eq ne le of_int
cutting channels balls box = cut_losing channels balls box

abbrev wide : Candidate
wide = box_of +0 (of_whole 10) +0 (of_whole 8)

-- about 3 and 2 with a radius of 2, on one channel and on two; about 13 and 2 with a radius of 5, which is 3 away and so reaches 4 along the second channel
pub restricted_one : restrict 1 (ball_of (of_whole 3) (of_whole 2) (of_whole 4)) wide ≡ box_of (of_whole 1) (of_whole 5) +0 (of_whole 8)
unfolding narrowing
restricted_one = refl

pub restricted_two : restrict 2 (ball_of (of_whole 3) (of_whole 2) (of_whole 4)) wide ≡ box_of (of_whole 1) (of_whole 5) +0 (of_whole 4)
unfolding narrowing
restricted_two = refl

pub restricted_beside : restrict 2 (ball_of (of_whole 13) (of_whole 2) (of_whole 25)) wide ≡ box_of (of_whole 8) (of_whole 10) +0 (of_whole 6)
unfolding narrowing
restricted_beside = refl

-- an empty ball, one that misses the box, and one whose radius is no number, which counts as 0
pub restricted_by_nothing : restrict 1 (ball_of (of_whole 3) +0 (neg (of_whole 1))) wide ≡ box_of +∞ -∞ +0 (of_whole 8)
unfolding narrowing neg
restricted_by_nothing = refl

pub restricted_away : restrict 2 (ball_of (of_whole 13) (of_whole 2) (of_whole 8)) wide ≡ box_of +∞ -∞ +0 (of_whole 8)
unfolding narrowing
restricted_away = refl

pub restricted_by_nan : restrict 1 (ball_of (of_whole 3) +0 nan) wide ≡ box_of (of_whole 3) (of_whole 3) +0 (of_whole 8)
unfolding narrowing
restricted_by_nan = refl

-- about 1 with a radius of 2, on one channel; about 0 and 4 with a radius of √41, which reaches 5 past the second channel's 4
pub cut_one : cut_losing 1 (ball_of (of_whole 1) +0 (of_whole 4) ∷ []) wide ≡ box_of (of_whole 3) (of_whole 10) +0 (of_whole 8)
unfolding cutting
cut_one = refl

pub cut_two : cut_losing 2 (ball_of +0 (of_whole 4) (of_whole 41) ∷ []) wide ≡ box_of (of_whole 5) (of_whole 10) +0 (of_whole 8)
unfolding cutting
cut_two = refl

-- a radius that is no number cuts nothing, and neither does a ball once the box is gone along the first channel
pub cut_by_nan : cut_losing 1 (ball_of (of_whole 1) +0 nan ∷ []) wide ≡ wide
unfolding cutting
cut_by_nan = refl

pub cut_once_gone : cut_losing 1 (ball_of +0 +0 (of_whole 4) ∷ []) (box_of (of_whole 1) +0 +0 +0) ≡ box_of (of_whole 1) +0 +0 +0
unfolding cutting
cut_once_gone = refl

-- a box that is gone along the second channel only, and one that is a point
pub gone_beside : is_dominated 1 (box_of +0 (of_whole 1) (of_whole 2) (of_whole 1)) ≡ false
unfolding is_dominated span_at lt of_int
gone_beside = refl

pub gone_along_two : is_dominated 2 (box_of +0 (of_whole 1) (of_whole 2) (of_whole 1)) ≡ true
unfolding is_dominated span_at lt of_int
gone_along_two = refl

pub a_point_is_left : is_dominated 1 (box_of (of_whole 1) (of_whole 1) +0 +0) ≡ false
unfolding is_dominated span_at lt of_int
a_point_is_left = refl

-- of the radii NaN, 3, 2, NaN, 2 the third is the narrowest; an empty ball is not kept, one that is no number is
pub narrowest_third : narrowest_to (ball_of +0 +0 nan ∷ ball_of +0 +0 (of_whole 3) ∷ ball_of +0 +0 (of_whole 2) ∷ ball_of +0 +0 nan ∷ ball_of +0 +0 (of_whole 2) ∷ []) 4 ≡ 2
unfolding narrowest_to ahead is_nan lt of_int
narrowest_third = refl

pub empty_not_kept : lose_inside (ball_of +0 +0 +0) [] ≡ []
unfolding lose_inside le lt eq
empty_not_kept = refl

pub nan_kept : lose_inside (ball_of +0 +0 nan) [] ≡ ball_of +0 +0 nan ∷ []
unfolding lose_inside le lt eq
nan_kept = refl
