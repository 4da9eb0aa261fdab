-- The side of a record says which of its sums are above h, and a gap's is none: of one step, and of the records that `analyze` wrote. Whether a record signals is then what the Rust says. Assumes nothing.
use mathlib.Core.Path.{◌≡◌}
use Prim.Native.Nat.{ℕ, ◌<◌}
use mathlib.Core.Bool.{true, false, ◌&&◌, ◌||◌}
use mathlib.Core.List.{List}
use lib.ListN.{get_or}
use lib.Ieee.{Float, nan}
use Rattle.std.specs.Prelude.{Result, Ok}
use Rattle.refusals.specs.declared.Refusal.{Refusal}
use Rattle.floats.specs.Numbers.{◌<ᶠ◌}
use Rattle.floats.specs.Finite.{finite}
use Rattle.charts.specs.Sides.{side_of, signals}
use Rattle.charts.specs.declared.Observation.{Observation}
use Rattle.charts.specs.declared.Side.TheVariants as Sided
use Rattle.charts.specs.Runs.{state_at}
use Rattle.charts.proofs.SideLaws.{finite_signals}
use Rattle.charts.proofs.Written.{each_written}
use Rattle.cusum.specs.declared.Cusum.{Cusum}
use Rattle.cusum.specs.declared.CusumResult.{CusumResult}
use Rattle.cusum.specs.Chart.{tests_of, step_of, fresh, shown_of, start_state, next_state, record_at, analyzed}

module _ (c : Cusum) (r : CusumResult) (i : Observation) (x : Float) where
  pub side_is : finite x ≡ true → let q = step_of c r i x in q.side ≡ side_of (c.h <ᶠ q.s_upper) (c.h <ᶠ q.s_lower)
  unfolding step_of
  side_is e = rw (step_of, e)

  gap_is_none : finite x ≡ false → (step_of c r i x).side ≡ Sided.None
  unfolding step_of
  gap_is_none e = rw (step_of, e)

  signal_is : let q = step_of c r i x in signals q.side ≡ (finite x && (c.h <ᶠ q.s_upper || c.h <ᶠ q.s_lower))
  signal_is = let q = step_of c r i x in finite_signals (finite x) (c.h <ᶠ q.s_upper) (c.h <ᶠ q.s_lower) q.side side_is gap_is_none

pub record_gap : (c : Cusum) (xs : List Float) (i : ℕ) → finite (get_or xs i nan) ≡ false → (record_at c xs i).side ≡ Sided.None
record_gap c xs i e = gap_is_none c (shown_of (state_at shown_of start_state next_state c xs i)) (record { 0 = i }) (get_or xs i nan) e

-- ---- where `analyze` answered with `k` records: that of the reading at `i`
module _ (c : Cusum) (xs : List Float) (entry exit : List CusumResult) (k : ℕ) (a : ◌≡◌ {A = Result ℕ Refusal × List CusumResult} (Ok k, exit) (analyzed c xs entry)) (i : ℕ) (h : i < k) where
  -- its record
  abbrev written : CusumResult
  written = get_or exit i fresh

  pub analyze_gap : finite (get_or xs i nan) ≡ false → written.side ≡ Sided.None
  analyze_gap = each_written shown_of start_state next_state c xs (λ (x : Float) (r : CusumResult). finite x ≡ false → r.side ≡ Sided.None) (λ s j x. gap_is_none c s.shown (record { 0 = j }) x) (tests_of c) entry exit k a i fresh h

  pub analyze_side_is : finite (get_or xs i nan) ≡ true → written.side ≡ side_of (c.h <ᶠ written.s_upper) (c.h <ᶠ written.s_lower)
  analyze_side_is = each_written shown_of start_state next_state c xs (λ (x : Float) (r : CusumResult). finite x ≡ true → r.side ≡ side_of (c.h <ᶠ r.s_upper) (c.h <ᶠ r.s_lower)) (λ s j x. side_is c s.shown (record { 0 = j }) x) (tests_of c) entry exit k a i fresh h

  -- the Rust's yes or no: a finite reading, and a sum above h
  pub analyze_signal : signals written.side ≡ (finite (get_or xs i nan) && (c.h <ᶠ written.s_upper || c.h <ᶠ written.s_lower))
  analyze_signal = each_written shown_of start_state next_state c xs (λ (x : Float) (r : CusumResult). signals r.side ≡ (finite x && (c.h <ᶠ r.s_upper || c.h <ᶠ r.s_lower)))
      (λ s j x. signal_is c s.shown (record { 0 = j }) x) (tests_of c) entry exit k a i fresh h
