-- A search with a test more in front: where it holds nothing is changed, and else it is the search. Assumes nothing.
use mathlib.Core.Path.{◌≡◌, refl, ap, ◌∙◌}
use mathlib.Core.Bool.{Bool, true, false, not, cond}
use mathlib.Core.List.{List, ◌∷◌}
use mathlib.Core.Option.{Option}
use Prim.Native.Nat.{ℕ}
use Rattle.logic.proofs.Laws.{clash}
use Rattle.std.specs.Prelude.{Result, Some, None}
use Rattle.refusals.specs.Tried.{tried}
use Rattle.refusals.specs.Said.{refusing, said}
use Rattle.refusals.specs.declared.Refusal.{Refusal}
use Rattle.search_answer.specs.Outcome.{Areas, outcome_by}
use Rattle.c_answers.specs.declared.Told.{Told}
use Rattle.c_answers.specs.Told.{told_of}
use Rattle.c_search.specs.Asked.{told_outcome}

-- settings that are named are those of the numbers, and the numbers stand for settings
pub named : {A : Type 0} (known : Bool) (x : A) {y : A} → Some y ≡ cond known (Some x) None → (known ≡ true) × (y ≡ x)
named true x e = (refl, cc)
named false x e = absurd (clash cc)

pub unnamed : {A : Type 0} (known : Bool) (x : A) → None ≡ cond known (Some x) None → known ≡ false
unnamed true x e = absurd (clash cc)
unnamed false x e = refl

module _ (tests : List (Bool × Refusal)) (found : Option (List ℕ)) (before : Areas) (first : Bool) (why : Refusal) where
  -- the test does not hold: what the search left
  pub goes_on : (after : Areas) (r : Result ℕ Refusal) (t : Told) → first ≡ true → ◌≡◌ {A = Result ℕ Refusal × Areas} (r, after) (outcome_by tests found before) → t ≡ told_of (said r)
      → ◌≡◌ {A = Told × Areas} (t, after) (told_outcome (outcome_by ((not first, why) ∷ tests) found before))
  unfolding outcome_by tried
  goes_on after r t e l p = rw e (ap (λ (u : Told). (u, after)) p ∙ ap (λ (o : Result ℕ Refusal × Areas). told_outcome o) l)

  -- the test holds: its refusal, and every area as it was
  pub stops : (t : Told) → first ≡ false → t ≡ told_of (refusing why) → ◌≡◌ {A = Told × Areas} (t, before) (told_outcome (outcome_by ((not first, why) ∷ tests) found before))
  unfolding outcome_by tried
  stops t e p = rw e (ap (λ (u : Told). (u, before)) p)
