-- The tables speak of the contracts: whatever meets the contract of a call says and leaves the call's outcome. Assumes nothing.
use Prim.Native.Nat.{ℕ}
use mathlib.Core.Path.{◌≡◌, ap}
use mathlib.Core.Bool.{Bool}
use mathlib.Core.List.{List}
use lib.Ieee.{Float}
use Rattle.elementary.specs.Logarithm.{ln}
use Rattle.refusals.specs.Said.{said}
use Rattle.std.specs.Prelude.{Option, Result}
use Rattle.refusals.specs.declared.Refusal.{Refusal}
use Rattle.charts.specs.declared.Sum.{Sum}
use Rattle.charts.specs.Hearing.{heard_as}
use Rattle.cusum.specs.Chart as Cusum
use Rattle.cusum.specs.RunLength as RunLength
use Rattle.cusum.specs.declared.Cusum.{Cusum}
use Rattle.cusum.specs.declared.CusumResult.{CusumResult}
use Rattle.ewma.specs.Chart as Ewma
use Rattle.ewma.specs.declared.Ewma.{Ewma}
use Rattle.ewma.specs.declared.EwmaResult.{EwmaResult}
use Rattle.search_answer.specs.Outcome.{Areas}
use Rattle.pelt.specs.Detected.{detected}
use Rattle.pelt.specs.declared.Pelt.{Pelt}
use Rattle.worked_examples.specs.Calls.{search, cusum, cusum_points, run_length, ewma, ewma_points, logarithm, searched, sums, averages, points, heard, valued, outcome}

-- ---- searches
pub detected_outcome : (strict : Bool) (p : Pelt) (run : List Float) (lengths : List ℕ) (before after : Areas) (r : Result ℕ Refusal) → ◌≡◌ {A = Result ℕ Refusal × Areas} (r, after) (detected strict p run lengths before)
    → searched (said r) after ≡ outcome (search (record { strict = strict; settings = p; run = run; lengths = lengths; areas = before }))
unfolding outcome
detected_outcome strict p run lengths before after r d = ap (λ (o : Result ℕ Refusal × Areas). searched (said o.0) o.1) d

-- ---- charts
pub cusum_outcome : (c : Cusum) (xs : List Float) (entry exit : List CusumResult) (r : Result ℕ Refusal) → ◌≡◌ {A = Result ℕ Refusal × List CusumResult} (r, exit) (Cusum.analyzed c xs entry) → sums (said r) exit ≡ outcome (cusum c xs entry)
unfolding outcome
cusum_outcome c xs entry exit r a = ap (λ (o : Result ℕ Refusal × List CusumResult). sums (said o.0) o.1) a

pub cusum_points_outcome : (c : Cusum) (xs : List Float) (entry exit : List ℕ) (r : Result ℕ Refusal) → ◌≡◌ {A = Result ℕ Refusal × List ℕ} (r, exit) (Cusum.signalled c xs entry) → points (said r) exit ≡ outcome (cusum_points c xs entry)
unfolding outcome
cusum_points_outcome c xs entry exit r a = ap (λ (o : Result ℕ Refusal × List ℕ). points (said o.0) o.1) a

pub ewma_outcome : (c : Ewma) (xs : List Float) (entry exit : List EwmaResult) (r : Result ℕ Refusal) → ◌≡◌ {A = Result ℕ Refusal × List EwmaResult} (r, exit) (Ewma.analyzed c xs entry) → averages (said r) exit ≡ outcome (ewma c xs entry)
unfolding outcome
ewma_outcome c xs entry exit r a = ap (λ (o : Result ℕ Refusal × List EwmaResult). averages (said o.0) o.1) a

pub ewma_points_outcome : (c : Ewma) (xs : List Float) (entry exit : List ℕ) (r : Result ℕ Refusal) → ◌≡◌ {A = Result ℕ Refusal × List ℕ} (r, exit) (Ewma.signalled c xs entry) → points (said r) exit ≡ outcome (ewma_points c xs entry)
unfolding outcome
ewma_points_outcome c xs entry exit r a = ap (λ (o : Result ℕ Refusal × List ℕ). points (said o.0) o.1) a

pub heard_outcome : (c : Cusum) (level : Float) (asked : Sum) (r : Result (Option ℕ) Refusal) → heard_as r ≡ RunLength.run_length c level asked → heard (heard_as r) ≡ outcome (run_length c level asked)
unfolding outcome
heard_outcome c level asked r a = ap heard a

-- ---- logarithms
pub logarithm_outcome : (x r : Float) → r ≡ ln x → valued r ≡ outcome (logarithm x)
unfolding outcome
logarithm_outcome x r a = ap valued a
