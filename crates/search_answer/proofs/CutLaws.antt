-- Promise 2 of the search that a caller asks, for all readings: its cuts rise strictly, every piece has at least the minimum length, and there are at most n/2. Assumes nothing.
use Prim.Native.Nat.{ℕ, ◌*◌, ◌/◌, ◌≤◌}
use mathlib.Core.Path.{◌≡◌, refl}
use mathlib.Core.Bool.{Bool, true, false}
use mathlib.Core.List.{List, []}
use mathlib.Core.Option.{Option, none, some}
use native.Mathlib.Omega.{arith}
use native.Mathlib.Nat.{not-suc-le-zero}
use borrow.Author.Tests.{ltb-false}
use lib.Dec.{ltb, leb}
use lib.ListN.{length, take}
use lib.Ieee.{Float}
use Rattle.logic.proofs.Laws.{clash}
use Rattle.floats.specs.Numbers.{◌≤ᶠ◌, +0}
use Rattle.std.specs.Prelude.{Result, Ok, Err}
use Rattle.costs.specs.declared.CostFunction.{CostFunction}
use Rattle.costs.specs.declared.Penalty.{Penalty}
use Rattle.readings.specs.Shape.{first_length, channels}
use Rattle.refusals.proofs.TriedLaws.{tried_passed}
use Rattle.refusals.specs.declared.Refusal.{Refusal}
use Rattle.search_rules.specs.Predecessors.{Sound}
use Rattle.search_rules.specs.Inequality.{price}
use Rattle.search_rules.proofs.InequalityLaws.{predecessors_sound}
use Rattle.search_rules.specs.Functional.{Task, functional}
use Rattle.search_rules.proofs.FunctionalLaws.{functional_sound}
use Rattle.backtrack.specs.Cuts.{cuts_of}
use Rattle.backtrack.proofs.CutLaws.{cuts_rise, cut_pieces, cuts_half}
use Rattle.search_rules.specs.Limits.{slot_floats}
use Rattle.search_answer.specs.Tests.{admitted_as}
use Rattle.search_answer.specs.Search.{penalty_value, pruned_cuts, functional_cuts, takes_functional, cuts_by, cuts_with, cuts_found}
use Rattle.search_answer.specs.Outcome.{Areas, tests_of, found_in, detected}
use Rattle.search_answer.specs.Promise.{Cut}
use Rattle.search_answer.proofs.AdmissionLaws.{admitted_fits}
use Rattle.search_answer.proofs.FrontLaws.{counted_found, front}

-- ---- of the cuts that are found
record Good (m n : ℕ) (found : Option (List ℕ)) : Type 0 where
  cut : (cuts : List ℕ) → found ≡ some cuts → Cut m n cuts

good_none : (m n : ℕ) → Good m n none
good_none m n = record { cut = λ cuts e. absurd (clash cc) }

good_some : {m n : ℕ} {cuts : List ℕ} → Cut m n cuts → Good m n (some cuts)
good_some {cuts = cuts} g = record { cut = λ other e. let same : other ≡ cuts = cc in rw same g }

no_cuts_cut : (m n : ℕ) → Cut m n []
no_cuts_cut m n =
    record {
      rising = record { rise = λ i l. absurd (not-suc-le-zero l); above = λ i l. absurd (not-suc-le-zero l); below = λ i l. absurd (not-suc-le-zero l) };
      pieces = λ h. absurd (not-suc-le-zero h);
      half = omega arith;
    }

sound_cut : {m : ℕ} {last : List ℕ} (n : ℕ) → Sound m last → 2 ≤ m → Cut m n (cuts_of last n)
sound_cut n s h = record { rising = cuts_rise n s (omega arith); pieces = cut_pieces n s; half = cuts_half n s h }

good_either : {m n : ℕ} (b : Bool) (x y : Option (List ℕ)) → (b ≡ true → Good m n x) → (b ≡ false → Good m n y) → Good m n (elim b [ true ↦ x | false ↦ y ])
good_either true x y f g = f refl
good_either false x y f g = g refl

found_good : (cost : CostFunction) (penalty : Penalty) (m : ℕ) (run : List Float) (n k slots : ℕ) → 2 ≤ m → Good m n (cuts_found cost penalty m run n k slots)
unfolding cuts_found cuts_with cuts_by functional_cuts pruned_cuts
found_good cost penalty m run n k slots h =
    good_either (ltb n (2 * m)) _ _ (λ e. good_some (no_cuts_cut m n)) (λ e.
    good_either (value ≤ᶠ +0) _ _ (λ f. good_some (no_cuts_cut m n)) (λ f.
    good_either (takes_functional cost k) _ _ (λ g.
    good_either (leb (functional task).peak slots) _ _ (λ q. good_some (sound_cut n (functional_sound task (enough e)) h)) (λ q. good_none m n)) (λ g.
    good_some (sound_cut n (predecessors_sound (price cost run n k) value m n (omega arith) (enough e)) h))))
  where
    value : Float
    value = penalty_value cost penalty run n k

    task : Task
    task = record { run = run; n = n; channels = k; m = m; penalty = penalty_value cost penalty run n k }

    enough : ltb n (2 * m) ≡ false → m ≤ n
    enough e = let l = ltb-false n (2 * m) e in omega arith

-- ---- as the caller sees them
-- the cuts in the front of the area, however it was before and whatever the readings are
pub detected_cuts : (strict : Bool) (cost : CostFunction) (penalty : Penalty) (m : ℕ) (run : List Float) (lengths : List ℕ) (before after : Areas) (count : ℕ)
    → ◌≡◌ {A = Result ℕ Refusal × Areas} (Ok count, after) (detected strict cost penalty m run lengths before) → Cut m (first_length lengths) (take count after.cuts)
unfolding admitted_as
detected_cuts strict cost penalty m run lengths before after count d =
    let tests = tests_of strict penalty m run lengths before in
    let found = found_in cost penalty m run lengths before in
    let c = counted_found tests found before after count d in
    let f = front found before after count c.1 in
    let fits = admitted_fits strict penalty m run lengths (length before.cuts) (length before.floats) (length before.indices) (channels (length lengths) (first_length lengths)) (tried_passed Err tests _ c.0) in
    let good = found_good cost penalty m run (first_length lengths) (length lengths) (length before.pool / slot_floats) fits.least in
    rw f.stand (good.cut f.cuts f.are)
