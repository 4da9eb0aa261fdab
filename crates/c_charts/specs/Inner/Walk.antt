-- A chart's walk over a series that puts each record into lent columns. Definitions only.
use Rattle.std.specs.Prelude.{ℕ, zero, suc, List, length, set, Float}
use Rattle.std.specs.Borrow.{MutBor}
use Rattle.refusals.specs.Tried.{count_of}
use Rattle.refusals.specs.Said.{said}
use Rattle.charts.specs.declared.InRange.{InRange}
use Rattle.charts.specs.Answers.{admitted_as}
use Rattle.charts.specs.Settings.{setting_tests}
use Rattle.charts.specs.Runs.{record_at, column}
use Rattle.c_answers.specs.declared.Counted.{Counted}
use Rattle.c_answers.specs.Told.{counted_of}

-- what is told of `n` readings and that room
abbrev pub answer_of : InRange → ℕ → ℕ → Counted
answer_of s n room = counted_of (said (admitted_as (setting_tests s) n room))

module _ {C S D W : Type 0} (shown : S → D) (start : C → S) (step : C → S → ℕ → Float → S) (put : W → ℕ → D → W) (c : C) (xs : List Float) where
  -- the columns `w` with the first `n` records
  abbrev pub puts : ℕ → W → W
  puts zero w = w
  puts (suc n) w = put (puts n w) n (record_at shown start step c xs n)

-- the columns `w` once they have the records that are admitted
abbrev pub all_put : {C S D W : Type 0} → (C → InRange) → (S → D) → (C → S) → (C → S → ℕ → Float → S) → (W → ℕ → D → W) → (W → ℕ) → C → List Float → W → W
all_put in_range shown start step put room c xs w = puts shown start step put c xs (count_of (admitted_as (setting_tests (in_range c)) (length xs) (room w))) w

-- the array behind a reference with `x` at `i`, and with the field of each of `records` at its front
abbrev pub set_in : {A : Type 0} → MutBor (List A) → ℕ → A → MutBor (List A)
set_in r i x = record r { now = set r.now i x }

abbrev pub column_in : {D A : Type 0} → (D → A) → List D → MutBor (List A) → MutBor (List A)
column_in field records r = record r { now = column field records r.now }
