-- The tests of a chart's settings pass exactly where it is accepted; and the refusal of a call names the first setting that is out of range. Assumes nothing.
use mathlib.Core.Path.{◌≡◌, refl, sym, ◌∙◌}
use mathlib.Core.Bool.{true, not}
use mathlib.Core.List.{List, [], ◌∷◌}
use Prim.Native.Nat.{ℕ}
use native.Mathlib.Omega.{arith}
use lib.Dec.{T}
use lib.ListN.{length}
use lib.Ieee.{Float}
use Rattle.std.specs.Prelude.{Result, Err}
use Rattle.floats.specs.Finite.{finite}
use Rattle.refusals.specs.Tried.{passed}
use Rattle.refusals.specs.declared.Refusal.{Refusal}
use Rattle.charts.specs.Settings.{Named}
use Rattle.charts.proofs.SettingLaws.{settings_pass, refusal_names, analyzed_refused, signalled_refused}
use Rattle.cusum.specs.declared.Cusum.{Cusum}
use Rattle.cusum.specs.declared.CusumResult.{CusumResult}
use Rattle.charts.specs.declared.Sum.{Sum}
use Rattle.cusum.specs.Chart.{accepted, in_range, tests_of, records, signalling, analyzed, signalled}
use Rattle.charts.specs.Hearing.{heard_as}
use Rattle.cusum.specs.RunLength.{heard, run_length}

pub tests_accept : (c : Cusum) → passed (tests_of c) ≡ accepted c
unfolding accepted tests_of
tests_accept c = settings_pass (in_range c)

pub passed_accepted : (c : Cusum) → passed (tests_of c) ≡ true → T (accepted c)
passed_accepted c e = rw (sym (tests_accept c) ∙ e) tt

-- ---- of the calls
pub analyze_refused : (c : Cusum) (xs : List Float) (entry exit : List CusumResult) (r : Refusal) → ◌≡◌ {A = Result ℕ Refusal × List CusumResult} (Err r, exit) (analyzed c xs entry) → Named (in_range c) r × (exit ≡ entry)
unfolding tests_of
analyze_refused c xs entry exit r e = analyzed_refused (in_range c) (length xs) (records c xs) entry exit r refl e

pub signal_points_refused : (c : Cusum) (xs : List Float) (entry exit : List ℕ) (r : Refusal) → ◌≡◌ {A = Result ℕ Refusal × List ℕ} (Err r, exit) (signalled c xs entry) → Named (in_range c) r × (exit ≡ entry)
unfolding tests_of
signal_points_refused c xs entry exit r e = signalled_refused (in_range c) (length xs) (signalling c xs (length xs)) entry exit r e

pub run_length_refused : (c : Cusum) (v : Float) (asked : Sum) (r : Refusal) → heard_as (Err r) ≡ run_length c v asked → Named (in_range c) r
unfolding run_length tests_of
run_length_refused c v asked r e = refusal_names ((not (finite v), Refusal.NonFinite 0 0) ∷ []) (omega arith, tt) (heard c v asked) r (in_range c) (sym e)
