-- What is told of a call's outcome, by what is told of its answer. Assumes nothing.
use mathlib.Core.Path.{◌≡◌, ap, ◌∙◌}
use mathlib.Core.List.{List}
use Rattle.std.specs.Prelude.{ℕ, Result}
use Rattle.refusals.specs.declared.Refusal.{Refusal}
use Rattle.refusals.specs.Said.{said}
use Rattle.c_answers.specs.declared.Counted.{Counted}
use Rattle.c_answers.specs.Told.{counted_of, told_left}

pub told_left_lem : {A : Type 0} (answer : Result ℕ Refusal) (left : List A) (outcome : Result ℕ Refusal × List A) (t : Counted) → ◌≡◌ {A = Result ℕ Refusal × List A} (answer, left) outcome → t ≡ counted_of (said answer) → ◌≡◌ {A = Counted × List A} (t, left) (told_left outcome)
told_left_lem {A} answer left outcome t e h = ap (λ (u : Counted). (u, left)) h ∙ ap (λ (o : Result ℕ Refusal × List A). told_left o) e
