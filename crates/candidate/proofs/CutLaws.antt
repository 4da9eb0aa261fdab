-- Laws of cutting by one ball more. Assumes nothing.
use Prim.Native.Nat.{ℕ, zero, suc, ◌+◌, ◌-◌, ◌≤◌, ◌<◌}
use mathlib.Core.Bool.{true, false}
use mathlib.Core.Path.{◌≡◌, refl, sym, ap, ◌∙◌}
use mathlib.Core.List.{List}
use native.Mathlib.Omega.{arith}
use native.Mathlib.Nat.{add-zero, add-suc}
use native.Mathlib.Numerals.{add-one}
use lib.Ieee.{Float}
use Rattle.areas.proofs.PartLaws.{tab_at}
use Rattle.candidate.specs.declared.Candidate.{Candidate}
use Rattle.candidate_balls.specs.declared.Ball.{Ball}
use Rattle.candidate.specs.Boxes.{span_at, gone}
use Rattle.candidate.specs.Balls.{ball_at, held_at, held}
use Rattle.candidate.specs.Cuts.{cut_to}

-- ---- one ball more
pub ball_read : (area : List Float) (place n i : ℕ) → i < n → held_at area place i ≡ ball_at (held area place n) i
unfolding held
ball_read area place n i h = sym (tab_at (held_at area place) n i _ h)

module _ (cut : Ball → Candidate → Candidate) (bs : List Ball) (x : Candidate) where
  pub cut_more : (i : ℕ) {y r : Candidate} {b : Ball} → y ≡ cut_to cut bs x i → gone (span_at y 0) ≡ false → b ≡ ball_at bs i → r ≡ cut b y → r ≡ cut_to cut bs x (i + 1)
  unfolding cut_to
  cut_more i p e t q = rw (add-one, ← p, e, ← t) q

  stays : (i d : ℕ) → gone (span_at (cut_to cut bs x i) 0) ≡ true → cut_to cut bs x i ≡ cut_to cut bs x (i + d)
  unfolding cut_to
  stays i zero e = rw add-zero refl
  stays i (suc d) e = let s = stays i d e in rw (add-suc, ← s, e) refl

  -- once the box is empty along the first channel, no ball changes it
  pub cut_gone : (i n : ℕ) {y : Candidate} → y ≡ cut_to cut bs x i → gone (span_at y 0) ≡ true → i ≤ n → y ≡ cut_to cut bs x n
  cut_gone i n {y} p e h =
      let k : i + (n - i) ≡ n = omega arith in
      p ∙ stays i (n - i) (rw (← p) e) ∙ ap (cut_to cut bs x) k
