-- A box has two numbers for each corner, and keeps them when it is narrowed and cut. Assumes nothing.
use Prim.Native.Nat.{ℕ, zero, suc}
use mathlib.Core.Bool.{Bool, true, false, cond}
use mathlib.Core.Path.{◌≡◌, refl, ap₂, ◌∙◌}
use mathlib.Core.List.{List, [], ◌∷◌}
use native.Mathlib.Omega.{arith}
use lib.Dec.{eqb}
use lib.ListN.{length, length-set}
use lib.Ieee.{Float}
use Rattle.floats.specs.Numbers.{◌-ᶠ◌}
use Rattle.candidate.specs.declared.Candidate.{Candidate}
use Rattle.candidate_balls.specs.declared.Ball.{Ball}
use Rattle.candidate.specs.Boxes.{Span}
use Rattle.candidate.specs.Boxes.{at, span_at, with_span, over_channels, along_each, gap2, narrowed, missed, nothing, restrict, gone}
use Rattle.candidate.specs.Balls.{ball_at}
use Rattle.candidate.specs.Cuts.{cut_by, cut_to, cut_losing}
use Rattle.search_rules.specs.Functional.{Task, range_box}
use Rattle.functional.specs.Inner.Held.{box_at, Wide}

with_wide : (k : ℕ) (s : Span) (x : Candidate) → Wide x → Wide (with_span k s x)
unfolding with_span
with_wide k s x w = record { lo = length-set x.lo k s.lo ∙ w.lo; hi = length-set x.hi k s.hi ∙ w.hi }

along_wide : (channels : ℕ) (step : ℕ → Span → Span) (x : Candidate) → Wide x → Wide (along_each channels step x)
unfolding along_each
along_wide channels step x w = go (eqb channels 1) (with_wide 0 (step 0 (span_at x 0)) x w)
  where
    go : (b : Bool) → Wide (with_span 0 (step 0 (span_at x 0)) x) → let y = with_span 0 (step 0 (span_at x 0)) x in Wide (cond b y (with_span 1 (step 1 (span_at y 1)) y))
    go true v = v
    go false v = with_wide 1 _ _ v

cut_to_lem : (channels : ℕ) (bs : List Ball) (x : Candidate) (i : ℕ) → Wide x → Wide (cut_to (cut_by channels) bs x i)
unfolding cut_to cut_by
cut_to_lem channels bs x zero w = w
cut_to_lem channels bs x (suc i) w = go (gone (span_at (cut_to (cut_by channels) bs x i) 0)) (cut_to_lem channels bs x i w)
  where
    go : (b : Bool) → Wide (cut_to (cut_by channels) bs x i) → let y = cut_to (cut_by channels) bs x i in Wide (cond b y (cut_by channels (ball_at bs i) y))
    go true v = v
    go false v = along_wide channels _ _ v

pub cut_wide : (channels : ℕ) (bs : List Ball) (x : Candidate) → Wide x → Wide (cut_losing channels bs x)
unfolding cut_losing
cut_wide channels bs x w = cut_to_lem channels bs x (length bs) w

pub restrict_wide : (channels : ℕ) (b : Ball) (x : Candidate) → Wide x → Wide (restrict channels b x)
unfolding restrict
restrict_wide channels b x w = go (missed b.r2 (over_channels channels (λ k. gap2 (span_at x k) (at b.centre k))))
  where
    go : (t : Bool) → Wide (cond t (with_span 0 nothing x) (along_each channels (λ k s. narrowed s (at b.centre k) (b.r2 -ᶠ (over_channels channels (λ i. gap2 (span_at x i) (at b.centre i)) -ᶠ gap2 s (at b.centre k)))) x))
    go true = with_wide 0 nothing x w
    go false = along_wide channels _ x w

pub box_wide : (slot : List Float) → Wide (box_at slot)
unfolding box_at
box_wide slot = record { lo = refl; hi = refl }

pub range_wide : (k : Task) → Wide (range_box k)
unfolding range_box
range_wide k = record { lo = refl; hi = refl }

-- so it is what its four numbers make
two_numbers : (l : List Float) → length l ≡ 2 → at l 0 ∷ at l 1 ∷ [] ≡ l
two_numbers [] e = absurd (none e)
  where
    none : ◌≡◌ {A = ℕ} 0 2 → ⊥
    none q = omega arith
two_numbers (a ∷ []) e = absurd (one e)
  where
    one : ◌≡◌ {A = ℕ} 1 2 → ⊥
    one q = omega arith
two_numbers (a ∷ b ∷ []) e = refl
two_numbers (a ∷ b ∷ c ∷ l) e = absurd (more e)
  where
    more : ◌≡◌ {A = ℕ} (suc (suc (suc (length l)))) 2 → ⊥
    more q = omega arith

pub box_by_numbers : (x : Candidate) → Wide x → record { lo = at x.lo 0 ∷ at x.lo 1 ∷ []; hi = at x.hi 0 ∷ at x.hi 1 ∷ [] } ≡ x
box_by_numbers x w = ap₂ (λ (l h : List Float). record { lo = l; hi = h }) (two_numbers x.lo w.lo) (two_numbers x.hi w.hi)
