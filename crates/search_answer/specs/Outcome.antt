-- What a search comes to: the answer, and what every lent area holds afterwards. Rules 2.5 and 3.16. Definitions only.
use Rattle.std.specs.Prelude.{ℕ, ◌/◌, Bool, List, ◌++◌, Result, Ok, Err, length, drop, replicate, Float}
use Rattle.std.proofs.Math.Option.{Option, none, some}
use Rattle.floats.specs.Numbers.{+0}
use Rattle.refusals.specs.Tried.{tried}
use Rattle.refusals.specs.declared.Refusal.{Refusal}
use Rattle.readings.specs.Shape.{first_length}
use Rattle.costs.specs.declared.CostFunction.{CostFunction}
use Rattle.costs.specs.declared.Penalty.{Penalty}
use Rattle.search_rules.specs.Limits.{slot_floats}
use Rattle.search_answer.specs.Tests.{search_tests}
use Rattle.search_answer.specs.Search.{cuts_found}

-- the areas that a search is lent
pub record Areas : Type 0 where
  pub cuts : List ℕ
  pub floats : List Float
  pub indices : List ℕ
  pub pool : List Float

abbrev pub areas : List ℕ → List Float → List ℕ → List Float → Areas
areas cuts floats indices pool = record { cuts = cuts; floats = floats; indices = indices; pool = pool }

-- what is answered of the cuts that are found: their number, or 9 where the slots do not suffice
abbrev pub found_answer : Option (List ℕ) → Result ℕ Refusal
found_answer (some cuts) = Ok (length cuts)
found_answer none = Err Refusal.Pool

-- cuts fill the front of the cuts area and the rest is unchanged; with 9 all of it is
abbrev pub cuts_left : Option (List ℕ) → List ℕ → List ℕ
cuts_left (some cuts) before = cuts ++ drop (length cuts) before
cuts_left none before = before

-- a work area is zero, beyond the room asked too
abbrev pub zeros : {A : Type 0} → A → List A → List A
zeros zero before = replicate (length before) zero

-- a search that nothing refuses before 9
unfoldable pub found_outcome : Option (List ℕ) → Areas → Result ℕ Refusal × Areas
found_outcome found before = (found_answer found, areas (cuts_left found before.cuts) (zeros +0 before.floats) (zeros 0 before.indices) (zeros +0 before.pool))

-- a refusal before 9 changes no area
abbrev pub unchanged : Areas → Refusal → Result ℕ Refusal × Areas
unchanged before r = (Err r, before)

-- the first refusal before 9, or what is found
unfoldable pub outcome_by : List (Bool × Refusal) → Option (List ℕ) → Areas → Result ℕ Refusal × Areas
outcome_by tests found before = tried (unchanged before) tests (found_outcome found before)

-- the tests of a search with these settings, and the cuts that it finds in these areas; slots are whole ones
abbrev pub tests_of : Bool → Penalty → ℕ → List Float → List ℕ → Areas → List (Bool × Refusal)
tests_of strict penalty m run lengths before = search_tests strict penalty m run lengths (length before.cuts) (length before.floats) (length before.indices)

abbrev pub found_in : CostFunction → Penalty → ℕ → List Float → List ℕ → Areas → Option (List ℕ)
found_in cost penalty m run lengths before = cuts_found cost penalty m run (first_length lengths) (length lengths) (length before.pool / slot_floats)

-- what such a search comes to
abbrev pub detected : Bool → CostFunction → Penalty → ℕ → List Float → List ℕ → Areas → Result ℕ Refusal × Areas
detected strict cost penalty m run lengths before = outcome_by (tests_of strict penalty m run lengths before) (found_in cost penalty m run lengths before) before
