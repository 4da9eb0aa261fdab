-- Definitions that read otherwise and come to the same: tests/wrong_definitions cites these laws. Assumes nothing.
use Prim.Native.Nat.{ℕ, ◌*◌}
use native.Mathlib.Nat.{mul-pos}
use mathlib.Core.Path.{◌≡◌, refl}
use mathlib.Core.Bool.{Bool, true, false, ◌||◌, cond}
use mathlib.Core.List.{List, [], ◌∷◌}
use native.Mathlib.Omega.{arith}
use lib.Dec.{T, eqb}
use lib.ListN.{set}
use lib.Seq.{get_or-set_other}
use lib.Ieee.{Float, nan, inf, fin, binary64, up, down, round, add, mul, lt, le, ne}
use lib.Ieee.Fits.{and_l, and_r, down_pos}
use Rattle.floats.specs.Numbers.{◌+ᶠ◌, ◌-ᶠ◌, ◌*ᶠ◌, ◌<ᶠ◌, ◌≤ᶠ◌, +0}
use Rattle.floats.specs.MaxMin.{larger}
use Rattle.floats.proofs.Order.Extremes.{max_first_nan}
use Rattle.floats.proofs.Order.Laws.{number, lt_then_le, le_then_lt}
use Rattle.floats.proofs.Order.Rounding.{round_le}
use Rattle.floats.proofs.Order.Sums.{risen_add, risen_le, add_le}
use Rattle.elementary.specs.Root.{sqrt}
use Rattle.candidate.specs.declared.Candidate.{Candidate}
use Rattle.candidate.specs.Boxes.{Span, gone, at, span_at, with_span, over_channels, along_each, gap2, missed}
use Rattle.candidate.specs.Cuts.{inside, moved, cut_ends, cut_span}
use Rattle.candidate.proofs.BoxLaws.{span_beside}

-- ---- a span that is gone stays so, whatever ball cuts it: to cut on then changes nothing that counts

raised : (b : Bool) (x v to : Float) → (T b → T (v ≤ᶠ to)) → T (x <ᶠ v) → T (x <ᶠ cond b to v)
raised true x v to h l = lt_then_le x v to l (h tt)
raised false x v to h l = l

lowered : (b : Bool) (v to y : Float) → (T b → T (to ≤ᶠ v)) → T (v <ᶠ y) → T (cond b to v <ᶠ y)
lowered true v to y h l = le_then_lt to v y (h tt) l
lowered false v to y h l = l

below_end : (c w v : Float) → T (inside c w v) → T (v ≤ᶠ c +ᶠ w)
unfolding inside
below_end c w v h = and_r (c -ᶠ w ≤ᶠ v) (v ≤ᶠ c +ᶠ w) h

above_start : (c w v : Float) → T (inside c w v) → T (c -ᶠ w ≤ᶠ v)
unfolding inside
above_start c w v h = and_l (c -ᶠ w ≤ᶠ v) (v ≤ᶠ c +ᶠ w) h

ends_gone : (s : Span) (c w : Float) → T (gone s) → T (gone (cut_ends s c w))
unfolding cut_ends moved
ends_gone s c w l =
    raised (inside c w s.lo) (cond (inside c w s.hi) (c -ᶠ w) s.hi) s.lo (c +ᶠ w) (below_end c w s.lo)
    (lowered (inside c w s.hi) s.hi (c -ᶠ w) s.lo (above_start c w s.hi) l)

pub gone_stays : (s : Span) (c r2 rest : Float) → T (gone s) → T (gone (cut_span s c r2 rest))
unfolding cut_span
gone_stays s c r2 rest l = go (r2 <ᶠ rest)
  where
    go : (b : Bool) → T (gone (cond b s (cut_ends s c (sqrt (r2 -ᶠ rest)))))
    go true = l
    go false = ends_gone s c (sqrt (r2 -ᶠ rest)) l

-- ---- it is all the same which of two channels is changed first

both_set : (xs : List Float) (a b : Float) → set (set xs 0 a) 1 b ≡ set (set xs 1 b) 0 a
both_set [] a b = refl
both_set (x ∷ []) a b = refl
both_set (x ∷ y ∷ xs) a b = refl

span_before : (s : Span) (x : Candidate) → span_at (with_span 1 s x) 0 ≡ span_at x 0
unfolding span_at with_span
span_before s x = rw (get_or-set_other x.lo 1 0 s.lo nan (omega arith), get_or-set_other x.hi 1 0 s.hi nan (omega arith)) refl

both_spans : (s t : Span) (x : Candidate) → with_span 1 t (with_span 0 s x) ≡ with_span 0 s (with_span 1 t x)
unfolding with_span
both_spans s t x = rw (both_set x.lo s.lo t.lo, both_set x.hi s.hi t.hi) refl

abbrev pub second_first : (ℕ → Span → Span) → Candidate → Candidate
second_first step x = let y = with_span 1 (step 1 (span_at x 1)) x in with_span 0 (step 0 (span_at y 0)) y

pub second_first_lem : (step : ℕ → Span → Span) (x : Candidate) → along_each 2 step x ≡ second_first step x
unfolding along_each
second_first_lem step x = rw (span_beside (step 0 (span_at x 0)) x, span_before (step 1 (span_at x 1)) x) (both_spans (step 0 (span_at x 0)) (step 1 (span_at x 1)) x)

-- ---- a sum of gaps is never below 0, so that a ball whose square is below 0 misses the box by its gaps too

numbered : (v : Float) → T (number (larger v +0))
unfolding larger
numbered nan = rw (max_first_nan +0) tt
numbered (inf true) = unfold lt in tt
numbered (inf false) = unfold lt ne in tt
numbered (fin s m e) = go (fin s m e <ᶠ +0) (ne (fin s m e) (fin s m e))
  where
    go : (a b : Bool) → T (number (cond a +0 (cond b +0 (fin s m e))))
    go true b = tt
    go false true = tt
    go false false = tt

square_from_zero : (g : Float) → T (number g) → T (+0 ≤ᶠ g *ᶠ g)
unfolding mul round
square_from_zero nan h = absurd h
square_from_zero (inf true) h = unfold le in tt
square_from_zero (inf false) h = unfold le in tt
square_from_zero (fin true m e) h = round_le binary64 false 0 1 false (m * up e * (m * up e)) (down e * down e) (omega arith) (mul-pos (down_pos e) (down_pos e)) (omega arith)
square_from_zero (fin false m e) h = round_le binary64 false 0 1 false (m * up e * (m * up e)) (down e * down e) (omega arith) (mul-pos (down_pos e) (down_pos e)) (omega arith)

gap_from_zero : (s : Span) (c : Float) → T (+0 ≤ᶠ gap2 s c)
unfolding gap2
gap_from_zero s c = square_from_zero (larger (larger (s.lo -ᶠ c) (c -ᶠ s.hi)) +0) (numbered (larger (s.lo -ᶠ c) (c -ᶠ s.hi)))

sum_from_zero : (channels : ℕ) (g : ℕ → Float) → T (+0 ≤ᶠ g 0) → T (+0 ≤ᶠ g 1) → T (+0 ≤ᶠ over_channels channels g)
unfolding over_channels add
sum_from_zero channels g a b = go (eqb channels 1)
  where
    go : (one : Bool) → T (+0 ≤ᶠ cond one (g 0) (g 0 +ᶠ g 1))
    go true = a
    go false = add_le binary64 +0 +0 (g 0) (g 1) a b tt (risen_add binary64 (g 0) (g 1) (risen_le +0 (g 0) tt a) (risen_le +0 (g 1) tt b))

pub missed_by_its_gaps : (channels : ℕ) (x : Candidate) (centre : List Float) (r2 : Float) → let total = over_channels channels (λ k. gap2 (span_at x k) (at centre k)) in missed r2 total ≡ (r2 <ᶠ total)
unfolding missed
missed_by_its_gaps channels x centre r2 = go (r2 <ᶠ +0) refl
  where
    total : Float
    total = over_channels channels (λ k. gap2 (span_at x k) (at centre k))

    from_zero : T (+0 ≤ᶠ total)
    from_zero = sum_from_zero channels (λ k. gap2 (span_at x k) (at centre k)) (gap_from_zero (span_at x 0) (at centre 0)) (gap_from_zero (span_at x 1) (at centre 1))

    truth : (b : Bool) → T b → true ≡ b
    truth true h = refl
    truth false h = absurd h

    go : (b : Bool) → (r2 <ᶠ +0) ≡ b → (b || r2 <ᶠ total) ≡ (r2 <ᶠ total)
    go true e = truth (r2 <ᶠ total) (lt_then_le r2 +0 total (rw e tt) from_zero)
    go false e = refl
