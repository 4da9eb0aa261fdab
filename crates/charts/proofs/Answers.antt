-- The charts' answers: what is said of one in the rules' numbers, and that as many records as one stands for fit both slices. Assumes nothing.
use mathlib.Core.Path.{◌≡◌, ◌∙◌, ap}
use Prim.Native.Nat.{ℕ, ◌≤◌}
use mathlib.Core.Bool.{Bool, true}
use mathlib.Core.List.{List, [], ◌∷◌}
use native.Mathlib.Omega.{arith}
use borrow.Author.Tests.{ltb-false}
use Rattle.std.specs.Prelude.{Result, Ok, Err}
use Rattle.refusals.specs.Limits.{max_readings}
use Rattle.refusals.specs.Tried.{tried, passed, count_of}
use Rattle.refusals.specs.Said.{answered, refusing, said}
use Rattle.refusals.proofs.TriedLaws.{tried_map, tried_passed, passed_first, passed_rest, passed_left, passed_right, no_count, passes, refuses, verdict}
use Rattle.refusals.specs.declared.Refusal.{Refusal}
use Rattle.charts.specs.Answers.{size_tests, chart_tests, chart_answer, admitted_as}

-- in the rules' numbers
pub answer_said : (ts : List (Bool × Refusal)) (n room count : ℕ) → said (chart_answer ts n room count) ≡ tried refusing (chart_tests ts n room) (answered (count ∷ []))
unfolding chart_answer
answer_said ts n room count = tried_map said Err (chart_tests ts n room) (Ok count)

-- ---- an answer that is a count
module _ (ts : List (Bool × Refusal)) (n room : ℕ) (p : passed (chart_tests ts n room) ≡ true) where
  pub passed_count : (count : ℕ) → chart_answer ts n room count ≡ Ok count
  unfolding chart_answer
  passed_count count = tried_passed Err (chart_tests ts n room) (Ok count) p

  sizes : passed (size_tests n room) ≡ true
  sizes = passed_right ts (size_tests n room) p

  pub few : n ≤ max_readings
  few = ltb-false max_readings n (passed_first _ _ sizes)

  pub roomy : n ≤ room
  roomy = ltb-false room n (passed_first _ _ (passed_rest _ _ sizes))

-- no test of the settings held, and it is that count
pub count_accepted : (ts : List (Bool × Refusal)) (n room count k : ℕ) → Ok k ≡ chart_answer ts n room count → (passed ts ≡ true) × (k ≡ count)
unfolding chart_answer
count_accepted ts n room count k e = elim (verdict (chart_tests ts n room)) [
  | passes p ↦ (passed_left ts (size_tests n room) p, ap count_of (e ∙ passed_count ts n room p count))
  | refuses r f ↦ absurd (no_count r k (e ∙ f count))
]

-- as many records as an answer stands for fit both slices, and they are no more than 4,096
pub within_both : (ts : List (Bool × Refusal)) (n room : ℕ) → (count_of (admitted_as ts n room) ≤ n) × (count_of (admitted_as ts n room) ≤ room)
unfolding chart_answer
within_both ts n room = elim (verdict (chart_tests ts n room)) [
  | passes p ↦ rw (passed_count ts n room p n) (omega arith, roomy ts n room p)
  | refuses r f ↦ rw (f n) (omega arith, omega arith)
]

pub few_records : (ts : List (Bool × Refusal)) (n room : ℕ) → count_of (admitted_as ts n room) ≤ max_readings
unfolding chart_answer
few_records ts n room = elim (verdict (chart_tests ts n room)) [
  | passes p ↦ rw (passed_count ts n room p n) (few ts n room p)
  | refuses r f ↦ rw (f n) (omega arith)
]

-- the same of a count `k` of such an answer
pub record Fits (n room k : ℕ) : Type 0 where
  pub readings : k ≤ n
  pub records : k ≤ room
  pub few : k ≤ max_readings

pub counted_fits : (ts : List (Bool × Refusal)) (n room : ℕ) (answer : Result ℕ Refusal) (k : ℕ) → answer ≡ admitted_as ts n room → k ≡ count_of answer → Fits n room k
counted_fits ts n room answer k e f = let both = within_both ts n room in rw (f, e) (record { readings = both.0; records = both.1; few = few_records ts n room })
