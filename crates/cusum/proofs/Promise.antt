-- Promise 3: a fresh chart that is fed one level first has its sum above h at reading n; then in any series, the nth of the next finite readings at that level or beyond it carries a signal on that sum's side,
-- whatever came before, and whatever gaps stand between. One proof serves both sums. Assumes nothing.
use mathlib.Core.Path.{◌≡◌, refl, ap, ◌∙◌}
use Prim.Native.Nat.{ℕ, zero, suc, ◌+◌, ◌<◌, suc-le-suc}
use native.Mathlib.Nat.{add-zero, add-suc, zero-lt-suc}
use native.Mathlib.Omega.{arith}
use mathlib.Core.Bool.{Bool, true, false, ◌&&◌, cond}
use mathlib.Core.List.{List, [], ◌∷◌}
use lib.Dec.{T}
use lib.ListN.{length, get_or}
use lib.Ieee.{Float, nan, binary64, neg, sub, le}
use lib.Ieee.Bits.{is_true}
use lib.Ieee.Fits.{and_l, and_r}
use lib.Ieee.Positive.{positive}
use Rattle.std.specs.Prelude.{Result, Ok}
use Rattle.refusals.specs.declared.Refusal.{Refusal}
use Rattle.floats.specs.Numbers.{◌<ᶠ◌, ◌≤ᶠ◌, +0}
use Rattle.floats.specs.Finite.{finite}
use Rattle.floats.proofs.Order.Zero.{finite_above}
use Rattle.floats.proofs.Order.Laws.{le_reflexive, lt_then_le, neg_anti}
use Rattle.floats.proofs.Order.Sums.{sub_le}
use Rattle.floats.proofs.Order.Quotients.{div_le}
use Rattle.charts.specs.Runs as Runs
use Rattle.charts.specs.Spans.{count_in}
use Rattle.charts.specs.declared.Observation.{Observation}
use Rattle.charts.specs.Sides.{is_above, is_below, faces}
use Rattle.charts.proofs.SideLaws.{side_above, side_below}
use Rattle.charts.proofs.Written.{analyzed_writes}
use Rattle.cusum.specs.declared.Cusum.{Cusum}
use Rattle.cusum.specs.declared.CusumResult.{CusumResult}
use Rattle.charts.specs.declared.Sum.{Sum}
use Rattle.charts.specs.declared.Sum.TheVariants.{Upper, Lower}
use Rattle.cusum.specs.Chart.{accepted, tests_of, score, fresh, step_of, shown_of, start_state, next_state, record_at, analyzed}
use Rattle.cusum.specs.RunLength.{sum_of, fed}
use Rattle.cusum.specs.Promise.{FirstHeard, beyond, finites, Lasting}
use Rattle.cusum.proofs.SettingLaws.{passed_accepted}
use Rattle.cusum.proofs.Sums.{next, cut_from_zero, next_le}
use Rattle.cusum.proofs.Sides.{side_is}

-- ---- what an accepted chart is
record Settings (c : Cusum) : Type 0 where
  target : T (finite c.target)
  sigma : T (positive c.sigma)
  k : T (finite c.k)

settings : (c : Cusum) → T (accepted c) → Settings c
unfolding accepted
settings c ok =
    let s = finite c.sigma && +0 <ᶠ c.sigma in
    let k = finite c.k && +0 ≤ᶠ c.k in
    let h = finite c.h && +0 <ᶠ c.h in
    let first = and_l (finite c.target && s && k) h ok in
    let two = and_l (finite c.target && s) k first in
    record {
      target = and_l (finite c.target) s two;
      sigma = finite_above c.sigma (and_r (finite c.target) s two);
      k = and_l (finite c.k) (+0 ≤ᶠ c.k) (and_r (finite c.target && s) k first);
    }

-- ---- the asked sum: at a finite reading it moves on by the score, or the lower one by its negative
abbrev turned : Sum → Float → Float
turned Upper z = z
turned Lower z = neg z

module _ (c : Cusum) (asked : Sum) where
  moves : (r : CusumResult) (i : Observation) (x : Float) → T (finite x) → sum_of asked (step_of c r i x) ≡ next c.k (sum_of asked r) (turned asked (score c x))
  unfolding step_of sub
  moves r i x f = go asked (is_true (finite x) f)
    where
      go : (t : Sum) → finite x ≡ true → sum_of t (step_of c r i x) ≡ next c.k (sum_of t r) (turned t (score c x))
      go Upper e = rw (step_of, e)
      go Lower e = rw (step_of, e)

  carries : (r : CusumResult) (i : Observation) (x : Float) → finite x ≡ false → sum_of asked (step_of c r i x) ≡ sum_of asked r
  unfolding step_of
  carries r i x e = go asked
    where
      go : (t : Sum) → sum_of t (step_of c r i x) ≡ sum_of t r
      go Upper = rw (step_of, e)
      go Lower = rw (step_of, e)

  -- by whether the reading is finite
  by_reading : (P : Float → Type 0) (r : CusumResult) (i : Observation) (x : Float) → (T (finite x) → P (next c.k (sum_of asked r) (turned asked (score c x)))) → (finite x ≡ false → P (sum_of asked r)) → P (sum_of asked (step_of c r i x))
  by_reading P r i x f g = go (finite x) refl
    where
      go : (b : Bool) → finite x ≡ b → P (sum_of asked (step_of c r i x))
      go true e = let t : T (finite x) = rw e tt in rw (moves r i x t) (f t)
      go false e = rw (carries r i x e) (g e)

  -- ---- no sum is under zero
  step_from_zero : (r : CusumResult) (i : Observation) (x : Float) → T (le +0 (sum_of asked r)) → T (le +0 (sum_of asked (step_of c r i x)))
  step_from_zero r i x h = by_reading (λ v. T (le +0 v)) r i x (λ _. cut_from_zero _) (λ _. h)

  fresh_is_zero : sum_of asked fresh ≡ +0
  fresh_is_zero = go asked
    where
      go : (t : Sum) → sum_of t fresh ≡ +0
      go Upper = refl
      go Lower = refl

  fed_from_zero : (v : Float) (m : ℕ) → T (le +0 (sum_of asked (fed c v m)))
  unfolding fed
  fed_from_zero v zero = rw fresh_is_zero (le_reflexive +0 tt)
  fed_from_zero v (suc m) = step_from_zero (fed c v m) (record { 0 = m }) v (fed_from_zero v m)

  -- the record before the reading of a series at an index
  abbrev prior : List Float → ℕ → CusumResult
  prior xs i = shown_of (Runs.state_at shown_of start_state next_state c xs i)

  prior_from_zero : (xs : List Float) (i : ℕ) → T (le +0 (sum_of asked (prior xs i)))
  prior_from_zero xs zero = rw fresh_is_zero (le_reflexive +0 tt)
  prior_from_zero xs (suc i) = step_from_zero (prior xs i) (record { 0 = i }) (get_or xs i nan) (prior_from_zero xs i)

  module _ (ok : T (accepted c)) where
    score_le : (x y : Float) → T (le x y) → T (le (score c x) (score c y))
    score_le x y h = let s = settings c ok in div_le binary64 (sub binary64 x c.target) (sub binary64 y c.target) c.sigma s.sigma (sub_le binary64 x y c.target s.target h)

    turned_le : (v x : Float) → T (beyond asked v x) → T (le (turned asked (score c v)) (turned asked (score c x)))
    turned_le v x h = go asked h
      where
        go : (t : Sum) → T (beyond t v x) → T (le (turned t (score c v)) (turned t (score c x)))
        go Upper h = score_le v x h
        go Lower h = neg_anti (score c x) (score c v) (score_le x v h)

    -- one reading each: the lower sum is fed the level, the other a reading at it or beyond
    both_move : (v : Float) → T (finite v) → (r s : CusumResult) (i j : Observation) (x : Float) → T (le +0 (sum_of asked r)) → T (le (sum_of asked r) (sum_of asked s)) → T (finite x) → T (beyond asked v x)
        → T (le (sum_of asked (step_of c r i v)) (sum_of asked (step_of c s j x)))
    both_move v F r s i j x z h X b =
        rw (moves r i v F, moves s j x X) (next_le c.k (sum_of asked r) (sum_of asked s) (turned asked (score c v)) (turned asked (score c x)) (settings c ok).k z h (turned_le v x b))

    -- the chart that is fed `v` once for each finite reading among the `d` readings of `xs` that begin at `p`
    keeps : (v : Float) → T (finite v) → (xs : List Float) (p d : ℕ) → ((j : ℕ) → j < d → T (finite (get_or xs (p + j) nan)) → T (beyond asked v (get_or xs (p + j) nan)))
        → T (le (sum_of asked (fed c v (finites xs p d))) (sum_of asked (prior xs (p + d))))
    unfolding count_in fed
    keeps v F xs p zero all = rw (add-zero p, fresh_is_zero) (prior_from_zero xs p)
    keeps v F xs p (suc d) all = rw (add-suc p d) (go (finite x) refl (keeps v F xs p d (λ j h. all j (omega arith))))
      where
        x : Float
        x = get_or xs (p + d) nan

        m : ℕ
        m = finites xs p d

        go : (b : Bool) → finite x ≡ b → T (le (sum_of asked (fed c v m)) (sum_of asked (prior xs (p + d))))
            → T (le (sum_of asked (fed c v (cond b (suc m) m))) (sum_of asked (step_of c (prior xs (p + d)) (record { 0 = p + d }) x)))
        go true e h = let t : T (finite x) = rw e tt in both_move v F (fed c v m) (prior xs (p + d)) (record { 0 = m }) (record { 0 = p + d }) x (fed_from_zero v m) h t (all d (omega arith) t)
        go false e h = rw (carries (prior xs (p + d)) (record { 0 = p + d }) x e) h

-- a finite reading with the asked sum above h signals on its side
over_faces : (c : Cusum) (asked : Sum) (r : CusumResult) (i : Observation) (x : Float) → T (finite x) → T (c.h <ᶠ sum_of asked (step_of c r i x)) → faces asked (step_of c r i x).side ≡ true
over_faces c Upper r i x f t =
    let q = step_of c r i x in
    ap is_above (side_is c r i x (is_true (finite x) f)) ∙ side_above (c.h <ᶠ q.s_upper) (c.h <ᶠ q.s_lower) ∙ is_true (c.h <ᶠ q.s_upper) t
over_faces c Lower r i x f t =
    let q = step_of c r i x in
    ap is_below (side_is c r i x (is_true (finite x) f)) ∙ side_below (c.h <ᶠ q.s_upper) (c.h <ᶠ q.s_lower) ∙ is_true (c.h <ᶠ q.s_lower) t

-- ---- the promise
pub lasting_sides : (c : Cusum) → T (accepted c) → (asked : Sum) (v : Float) → T (finite v) → (n : ℕ) → FirstHeard c v asked n
    → (xs : List Float) (p d : ℕ) → Lasting asked v xs p d n → faces asked (record_at c xs (p + d)).side ≡ true
unfolding fed
lasting_sides c ok asked v F n first xs p d l =
    let m = finites xs p d in
    let over : T (c.h <ᶠ sum_of asked (fed c v (suc m))) = rw (← l.nth) at first.over in
    let less = both_move c asked ok v F (fed c v m) (prior c asked xs (p + d)) (record { 0 = m }) (record { 0 = p + d }) (get_or xs (p + d) nan)
    (fed_from_zero c asked v m) (keeps c asked ok v F xs p d (λ j h. l.all j (omega arith))) l.last (l.all d (omega arith) l.last) in
    over_faces c asked (prior c asked xs (p + d)) (record { 0 = p + d }) (get_or xs (p + d) nan) l.last
    (lt_then_le c.h (sum_of asked (fed c v (suc m))) (sum_of asked (record_at c xs (p + d))) over less)

-- ---- the same of the records in the lent slice, wherever `analyze` answered with records
-- a reading that is finite stands in the series
pub in_series : (xs : List Float) (i : ℕ) → T (finite (get_or xs i nan)) → i < length xs
in_series [] i t = absurd t
in_series (x ∷ xs) zero t = zero-lt-suc (length xs)
in_series (x ∷ xs) (suc i) t = suc-le-suc (in_series xs i t)

pub lasting_sides_lent : (c : Cusum) (xs : List Float) (entry exit : List CusumResult) (k : ℕ) → ◌≡◌ {A = Result ℕ Refusal × List CusumResult} (Ok k, exit) (analyzed c xs entry)
    → (asked : Sum) (v : Float) → T (finite v) → (n : ℕ) → FirstHeard c v asked n → (p d : ℕ) → Lasting asked v xs p d n → faces asked (get_or exit (p + d) fresh).side ≡ true
lasting_sides_lent c xs entry exit k a asked v F n first p d l =
    let w = analyzed_writes shown_of start_state next_state c xs (tests_of c) entry exit k a in
    let here : p + d < k = omega (arith, w.all, in_series xs (p + d) l.last) in
    ap (λ (r : CusumResult). faces asked r.side) (w.holds (p + d) fresh here) ∙ lasting_sides c (passed_accepted c w.passes) asked v F n first xs p d l
