-- A segment is the same where the channel's sum starts at -0. No cost is -0, so that a sum of costs over the channels is the same whichever zero it starts at. Assumes nothing.
use Rattle.std.proofs.Common.{◌≡◌, ℕ, zero, suc, ◌-◌, ◌^◌, ◌<◌, ◌≤◌, Bool, true, false, cond, List, length, pos, arith}
use lib.Ieee.{Float, fin, binary64, prec}
use lib.Ieee.Fits.{mul-fits}
use Rattle.floats.specs.Numbers.{◌+ᶠ◌, ◌*ᶠ◌, ◌/ᶠ◌, ◌≤ᶠ◌, +0, of_whole}
use Rattle.floats.specs.Inner.MinusZero.{negative_zero}
use Rattle.floats.proofs.MinusZero.{Plain, plain_sub, plain_from_either_zero}
use Rattle.floats.proofs.WholeTimes.{whole_times}
use Rattle.elementary.specs.Logarithm.{ln}
use Rattle.elementary.proofs.LogarithmSign.{ln_plain}
use Rattle.sums.specs.Sums.{squares_to}
use Rattle.sums.specs.Inner.Start.{mean_from, EachFits}
use Rattle.sums.proofs.StartLaws.{squares_plain, running_from_minus_zero}
use Rattle.costs.specs.Costs.{segment_about, segment_of, l2_cost, smallest_normal, normal_cost}

module _ (xs : List Float) (mean : Float) (a b : ℕ) where
  l2_plain : Plain (l2_cost (segment_about xs mean a b))
  unfolding l2_cost segment_about
  l2_plain =
      let s = segment_about xs mean a b in
      let m = s.sum /ᶠ s.length in
      plain_sub (s.length *ᶠ m *ᶠ m) (plain_sub (squares_to xs mean a) (squares_plain xs mean b) (squares_plain xs mean a).held) (mul-fits binary64 (s.length *ᶠ m) m)

  -- the first channel's cost, added to the zero that a sum starts at
  pub l2_from_either_zero : (z : Bool) → fin z 0 (pos 0) +ᶠ l2_cost (segment_about xs mean a b) ≡ l2_cost (segment_about xs mean a b)
  l2_from_either_zero z = plain_from_either_zero z l2_plain

-- ---- the same of Normal, for a segment that has a reading
module _ (xs : List Float) (mean : Float) (a b : ℕ) (some : a < b) where
  normal_plain : Plain (normal_cost (segment_about xs mean a b))
  unfolding normal_cost segment_about
  normal_plain = go (b - a) (omega (arith, some)) (l2_cost (segment_about xs mean a b) /ᶠ of_whole (b - a))
    where
      chosen : (n : ℕ) (v : Float) (c : Bool) → Plain (cond c (of_whole (suc n) *ᶠ ln smallest_normal) (of_whole (suc n) *ᶠ ln v))
      chosen n v true = whole_times n (ln_plain smallest_normal)
      chosen n v false = whole_times n (ln_plain v)

      go : (n : ℕ) → 0 < n → (v : Float) → Plain (cond (v ≤ᶠ +0) (of_whole n *ᶠ ln smallest_normal) (of_whole n *ᶠ ln v))
      go zero h v = absurd (omega (arith, h))
      go (suc n) h v = chosen n v (v ≤ᶠ +0)

  pub normal_from_either_zero : (z : Bool) → fin z 0 (pos 0) +ᶠ normal_cost (segment_about xs mean a b) ≡ normal_cost (segment_about xs mean a b)
  normal_from_either_zero z = plain_from_either_zero z normal_plain

-- ---- a segment about the mean of a sum from -0 on
pub segment_from_minus_zero : (xs : List Float) → EachFits xs → length xs ≤ 2 ^ prec binary64 → (a b : ℕ) → a ≤ length xs → b ≤ length xs → segment_about xs (mean_from negative_zero xs) a b ≡ segment_of xs a b
unfolding segment_about segment_of
segment_from_minus_zero xs held short a b h l =
    let p = running_from_minus_zero xs held short a h in
    let q = running_from_minus_zero xs held short b l in
    rw (p.0, p.1, q.0, q.1)
