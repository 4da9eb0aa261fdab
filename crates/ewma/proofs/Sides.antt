-- The side of a record says on which side of its limits the statistic is, and a gap's is none; that of an accepted chart is never both, since its upper limit is not below its lower one. Of one step, and of the records that `analyze` wrote. Whether a record signals is then what the Rust says. Assumes nothing.
use mathlib.Core.Path.{◌≡◌, refl, sym, ap, subst, ◌∙◌}
use Prim.Native.Nat.{ℕ, ◌<◌}
use mathlib.Core.Bool.{Bool, true, false, ◌&&◌, ◌||◌, false≢true}
use mathlib.Core.List.{List}
use lib.Dec.{T}
use lib.ListN.{get_or}
use lib.Ieee.{Float, nan, binary64, add, sub, lt}
use lib.Ieee.Fits.{and_l, and_r}
use lib.Ieee.Positive.{positive}
use Rattle.std.specs.Prelude.{Result, Ok}
use Rattle.refusals.specs.declared.Refusal.{Refusal}
use Rattle.floats.specs.Numbers.{◌*ᶠ◌, ◌<ᶠ◌, ◌≤ᶠ◌, +0, of_whole}
use Rattle.floats.specs.Finite.{finite}
use Rattle.floats.proofs.Order.Zero.{finite_above}
use Rattle.floats.proofs.Order.FromZero.{FromZero, positive_product, product_from_zero, limits_apart}
use Rattle.elementary.specs.Root.{sqrt}
use Rattle.elementary.proofs.RootSign.{root_from_zero}
use Rattle.charts.specs.Sides.{side_of, signals, is_above, is_below}
use Rattle.charts.specs.declared.Observation.{Observation}
use Rattle.charts.specs.declared.Place.{Place}
use Rattle.charts.specs.declared.Side.TheVariants as Sided
use Rattle.charts.specs.Runs.{state_at}
use Rattle.charts.proofs.SideLaws.{side_above, side_below, finite_signals}
use Rattle.charts.proofs.Written.{analyzed_writes, each_written}
use Rattle.ewma.specs.declared.Ewma.{Ewma}
use Rattle.ewma.specs.declared.EwmaResult.{EwmaResult}
use Rattle.ewma.specs.Chart.{accepted, tests_of, place_after, half_width_at, step_of, Charted, record_of, blank, fresh, next_of, record_at, analyzed}
use Rattle.ewma.proofs.Editions.{step_limits}
use Rattle.ewma.proofs.SettingLaws.{passed_accepted}

module _ (c : Ewma) (place : Place) (r : EwmaResult) (i : Observation) (x : Float) where
  side_is : finite x ≡ true → let q = step_of c place r i x in q.side ≡ side_of (q.ucl <ᶠ q.ewma) (q.ewma <ᶠ q.lcl)
  unfolding step_of
  side_is e = rw (step_of, e)

  gap_is_none : finite x ≡ false → (step_of c place r i x).side ≡ Sided.None
  unfolding step_of
  gap_is_none e = rw (step_of, e)

  signal_is : let q = step_of c place r i x in signals q.side ≡ (finite x && (q.ucl <ᶠ q.ewma || q.ewma <ᶠ q.lcl))
  signal_is = let q = step_of c place r i x in finite_signals (finite x) (q.ucl <ᶠ q.ewma) (q.ewma <ᶠ q.lcl) q.side side_is gap_is_none

-- ---- the limits of an accepted chart
-- sigma and L are above 0
widths : (c : Ewma) → T (accepted c) → T (positive c.sigma) × T (positive c.l_factor)
unfolding accepted
widths c ok =
    let s = finite c.sigma && +0 <ᶠ c.sigma in
    let w = +0 <ᶠ c.lambda && c.lambda ≤ᶠ of_whole 1 in
    let l = finite c.l_factor && +0 <ᶠ c.l_factor in
    let first = and_l (finite c.target && s && w) l ok in
    (finite_above c.sigma (and_r (finite c.target) s (and_l (finite c.target && s) w first)), finite_above c.l_factor (and_r (finite c.target && s && w) l ok))

-- half their distance is at or above 0, or NaN
pub half_from_zero : (c : Ewma) → T (accepted c) → (place : Place) → FromZero (half_width_at c place)
unfolding half_width_at
half_from_zero c ok place =
    let p = widths c ok in
    product_from_zero (c.l_factor *ᶠ c.sigma) (sqrt _) (positive_product binary64 c.l_factor c.sigma p.1 p.0) (root_from_zero _)

-- so that no statistic is outside both
step_not_both : (c : Ewma) → T (accepted c) → (place : Place) (r : EwmaResult) (i : Observation) (x : Float) → (step_of c place r i x).side ≡ Sided.Both → ⊥
step_not_both c ok place r i x both = go (finite x) refl
  where
    q : EwmaResult
    q = step_of c place r i x

    half : Float
    half = half_width_at c place

    go : (b : Bool) → finite x ≡ b → ⊥
    go true e =
        let limits = step_limits c place r i x in
        let high : (q.ucl <ᶠ q.ewma) ≡ true = sym (ap is_above (side_is c place r i x e) ∙ side_above (q.ucl <ᶠ q.ewma) (q.ewma <ᶠ q.lcl)) ∙ ap is_above both in
        let low : (q.ewma <ᶠ q.lcl) ≡ true = sym (ap is_below (side_is c place r i x e) ∙ side_below (q.ucl <ᶠ q.ewma) (q.ewma <ᶠ q.lcl)) ∙ ap is_below both in
        let over : T (lt (add binary64 c.target half) q.ewma) = subst (λ (u : Float). T (lt u q.ewma)) limits.0 (rw high tt) in
        let under : T (lt q.ewma (sub binary64 c.target half)) = subst (λ (u : Float). T (lt q.ewma u)) limits.1 (rw low tt) in
        limits_apart binary64 c.target half q.ewma (half_from_zero c ok place) over under
    go false e = false≢true (ap is_above (sym (gap_is_none c place r i x e) ∙ both))

-- ---- the record of the reading at `i`
-- the place of the next reading after a state
abbrev place_of : Ewma → Charted → ℕ → Float → Place
place_of c s i x = place_after c.edition s.1 (record { 0 = i }) x

module _ (c : Ewma) (xs : List Float) (i : ℕ) where
  -- the state before it
  abbrev prior : Charted
  prior = state_at record_of fresh next_of c xs i

  pub record_gap : finite (get_or xs i nan) ≡ false → (record_at c xs i).side ≡ Sided.None
  record_gap e = gap_is_none c (place_of c prior i (get_or xs i nan)) prior.0 (record { 0 = i }) (get_or xs i nan) e

  pub record_not_both : T (accepted c) → (record_at c xs i).side ≡ Sided.Both → ⊥
  record_not_both ok both = step_not_both c ok (place_of c prior i (get_or xs i nan)) prior.0 (record { 0 = i }) (get_or xs i nan) both

-- ---- where `analyze` answered with `k` records: that of the reading at `i`
module _ (c : Ewma) (xs : List Float) (entry exit : List EwmaResult) (k : ℕ) (a : ◌≡◌ {A = Result ℕ Refusal × List EwmaResult} (Ok k, exit) (analyzed c xs entry)) (i : ℕ) (h : i < k) where
  -- its record
  abbrev written : EwmaResult
  written = get_or exit i (blank c)

  pub analyze_gap : finite (get_or xs i nan) ≡ false → written.side ≡ Sided.None
  analyze_gap = each_written record_of fresh next_of c xs (λ (x : Float) (r : EwmaResult). finite x ≡ false → r.side ≡ Sided.None) (λ s j x. gap_is_none c (place_of c s j x) s.0 (record { 0 = j }) x) (tests_of c) entry exit k a i (blank c) h

  pub analyze_side_is : finite (get_or xs i nan) ≡ true → written.side ≡ side_of (written.ucl <ᶠ written.ewma) (written.ewma <ᶠ written.lcl)
  analyze_side_is = each_written record_of fresh next_of c xs (λ (x : Float) (r : EwmaResult). finite x ≡ true → r.side ≡ side_of (r.ucl <ᶠ r.ewma) (r.ewma <ᶠ r.lcl)) (λ s j x. side_is c (place_of c s j x) s.0 (record { 0 = j }) x) (tests_of c) entry exit k a i (blank c) h

  -- the Rust's yes or no: a finite reading, and a statistic outside the limits
  pub analyze_signal : signals written.side ≡ (finite (get_or xs i nan) && (written.ucl <ᶠ written.ewma || written.ewma <ᶠ written.lcl))
  analyze_signal = each_written record_of fresh next_of c xs (λ (x : Float) (r : EwmaResult). signals r.side ≡ (finite x && (r.ucl <ᶠ r.ewma || r.ewma <ᶠ r.lcl)))
      (λ s j x. signal_is c (place_of c s j x) s.0 (record { 0 = j }) x) (tests_of c) entry exit k a i (blank c) h

  pub analyze_not_both : written.side ≡ Sided.Both → ⊥
  analyze_not_both =
      let ok = passed_accepted c (analyzed_writes record_of fresh next_of c xs (tests_of c) entry exit k a).passes in
      each_written record_of fresh next_of c xs (λ (x : Float) (r : EwmaResult). r.side ≡ Sided.Both → ⊥) (λ s j x. step_not_both c ok (place_of c s j x) s.0 (record { 0 = j }) x) (tests_of c) entry exit k a i (blank c) h
