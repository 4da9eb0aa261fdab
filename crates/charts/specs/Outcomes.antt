-- What a chart's calls come to, for any chart and the tests of its settings: the answer, and what the lent slice holds afterwards. Rules 2.5 and 5.5. Definitions only.
use Rattle.std.specs.Prelude.{ℕ, Bool, List, [], length, Result, Ok, Err}
use Rattle.refusals.specs.Tried.{count_of}
use Rattle.refusals.specs.declared.Refusal.{Refusal}
use Rattle.charts.specs.Runs.{lent}
use Rattle.charts.specs.Answers.{chart_answer, admitted_as}

-- `analyze` of `n` readings: a record for each at the front of the lent ones, `entry`, and none where it refuses
abbrev pub analyzed : {D : Type 0} → List (Bool × Refusal) → ℕ → (ℕ → List D) → List D → Result ℕ Refusal × List D
analyzed settings n records entry = let answer = admitted_as settings n (length entry) in (answer, lent (records (count_of answer)) entry)

-- what a call with this answer writes: `written`, and nothing where it refuses
abbrev pub provided : {A : Type 0} → Result ℕ Refusal → List A → List A
provided (Ok n) written = written
provided (Err r) written = []

-- `signal_points` of `n` readings, which needs room for as many: `points` at the front of the lent indices, `entry`, and none where it refuses
abbrev pub signalled : List (Bool × Refusal) → ℕ → List ℕ → List ℕ → Result ℕ Refusal × List ℕ
signalled settings n points entry = let answer = chart_answer settings n (length entry) (length points) in (answer, lent (provided answer points) entry)
