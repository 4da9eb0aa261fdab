-- What `analyze` of any chart wrote: where it answered with a count, the tests of the settings passed, the count is that of the readings, and the lent slice has at each index the record of the reading there. So what holds of the record of every step holds of every record that was written. Assumes nothing.
use mathlib.Core.Path.{◌≡◌, sym, ap, subst, ◌∙◌}
use Prim.Native.Nat.{ℕ, ◌<◌}
use mathlib.Core.Bool.{Bool, true}
use mathlib.Core.List.{List}
use lib.ListN.{length, get_or, drop}
use lib.Ieee.{Float, nan}
use Rattle.std.specs.Prelude.{Result, Ok}
use Rattle.refusals.specs.Tried.{passed, count_of}
use Rattle.refusals.specs.declared.Refusal.{Refusal}
use Rattle.charts.specs.Answers.{admitted_as}
use Rattle.charts.specs.Outcomes.{analyzed}
use Rattle.charts.specs.Runs.{state_at, record_at, records, lent}
use Rattle.charts.proofs.Answers.{count_accepted}
use Rattle.charts.proofs.Runs.{record_in}

module _ {C S D : Type 0} (shown : S → D) (start : C → S) (step : C → S → ℕ → Float → S) (c : C) (xs : List Float) where
  pub record Written (tests : List (Bool × Refusal)) (exit : List D) (k : ℕ) : Type 0 where
    pub passes : passed tests ≡ true
    pub all : k ≡ length xs
    pub holds : (i : ℕ) (fallback : D) → i < k → get_or exit i fallback ≡ record_at shown start step c xs i

  pub analyzed_writes : (tests : List (Bool × Refusal)) (entry exit : List D) (k : ℕ) → ◌≡◌ {A = Result ℕ Refusal × List D} (Ok k, exit) (analyzed tests (length xs) (records shown start step c xs) entry) → Written tests exit k
  analyzed_writes tests entry exit k a =
      let answer : Ok k ≡ admitted_as tests (length xs) (length entry) = ap (λ (o : Result ℕ Refusal × List D). o.0) a in
      let counts = count_accepted tests (length xs) (length entry) (length xs) k answer in
      let left : exit ≡ lent (records shown start step c xs k) entry = ap (λ (o : Result ℕ Refusal × List D). o.1) a ∙ ap (λ (r : Result ℕ Refusal). lent (records shown start step c xs (count_of r)) entry) (sym answer) in
      record {
        passes = counts.0;
        all = counts.1;
        holds = λ i fallback h. ap (λ (l : List D). get_or l i fallback) left ∙ record_in shown start step c xs k i (drop (length (records shown start step c xs k)) entry) fallback h;
      }

  -- `P` of a reading and its record
  pub each_written : (P : Float → D → Type 0) → ((s : S) (i : ℕ) (x : Float) → P x (shown (step c s i x))) → (tests : List (Bool × Refusal)) (entry exit : List D) (k : ℕ)
      → ◌≡◌ {A = Result ℕ Refusal × List D} (Ok k, exit) (analyzed tests (length xs) (records shown start step c xs) entry) → (i : ℕ) (fallback : D) → i < k → P (get_or xs i nan) (get_or exit i fallback)
  each_written P holds tests entry exit k a i fallback h =
      subst (P (get_or xs i nan)) (sym ((analyzed_writes tests entry exit k a).holds i fallback h)) (holds (state_at shown start step c xs i) i (get_or xs i nan))
