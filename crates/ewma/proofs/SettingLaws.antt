-- The tests of a chart's settings pass exactly where it is accepted; and the refusal of a call names the first setting that is out of range. Assumes nothing.
use mathlib.Core.Path.{◌≡◌, refl, sym, ◌∙◌}
use mathlib.Core.Bool.{true}
use mathlib.Core.List.{List}
use Prim.Native.Nat.{ℕ}
use lib.Dec.{T}
use lib.ListN.{length}
use lib.Ieee.{Float}
use Rattle.std.specs.Prelude.{Result, Err}
use Rattle.refusals.specs.Tried.{passed}
use Rattle.refusals.specs.declared.Refusal.{Refusal}
use Rattle.charts.specs.Settings.{Named}
use Rattle.charts.proofs.SettingLaws.{settings_pass, analyzed_refused, signalled_refused}
use Rattle.ewma.specs.declared.Ewma.{Ewma}
use Rattle.ewma.specs.declared.EwmaResult.{EwmaResult}
use Rattle.ewma.specs.Chart.{accepted, in_range, tests_of, records, signalling, analyzed, signalled}

pub tests_accept : (c : Ewma) → passed (tests_of c) ≡ accepted c
unfolding accepted tests_of
tests_accept c = settings_pass (in_range c)

pub passed_accepted : (c : Ewma) → passed (tests_of c) ≡ true → T (accepted c)
passed_accepted c e = rw (sym (tests_accept c) ∙ e) tt

-- ---- of the calls
pub analyze_refused : (c : Ewma) (xs : List Float) (entry exit : List EwmaResult) (r : Refusal) → ◌≡◌ {A = Result ℕ Refusal × List EwmaResult} (Err r, exit) (analyzed c xs entry) → Named (in_range c) r × (exit ≡ entry)
unfolding tests_of
analyze_refused c xs entry exit r e = analyzed_refused (in_range c) (length xs) (records c xs) entry exit r refl e

pub signal_points_refused : (c : Ewma) (xs : List Float) (entry exit : List ℕ) (r : Refusal) → ◌≡◌ {A = Result ℕ Refusal × List ℕ} (Err r, exit) (signalled c xs entry) → Named (in_range c) r × (exit ≡ entry)
unfolding tests_of
signal_points_refused c xs entry exit r e = signalled_refused (in_range c) (length xs) (signalling c xs (length xs)) entry exit r e
