-- Laws of answers that are tried: what is said of one, that one whose tests all fail is its result, and that any other is a refusal. Assumes nothing.
use Prim.Native.Nat.{ℕ}
use mathlib.Core.Path.{◌≡◌, refl, ap}
use mathlib.Core.Bool.{Bool, true, false, not, ◌&&◌, cond, false≢true}
use mathlib.Core.List.{List, [], ◌∷◌, ◌++◌}
use Rattle.logic.proofs.Laws.{clash}
use Rattle.refusals.specs.Stated.{Stated, stated}
use Rattle.refusals.specs.Tried.{tried, passed, counted}
use Rattle.refusals.specs.Said.{refused, answered, refusing}
use Rattle.refusals.specs.declared.Refusal.{Refusal}
use Rattle.std.specs.Prelude.{Ok, Err}

module _ {A B : Type 0} (f : A → B) (refuse : Refusal → A) where
  -- what is made of an answer that is tried is tried itself
  pub tried_map : (ts : List (Bool × Refusal)) (result : A) → f (tried refuse ts result) ≡ tried (λ r. f (refuse r)) ts (f result)
  unfolding tried
  tried_map [] result = refl
  tried_map (t ∷ ts) result = go t.0 (tried_map ts result)
    where
      go : (b : Bool) → f (tried refuse ts result) ≡ tried (λ r. f (refuse r)) ts (f result) → f (cond b (refuse t.1) (tried refuse ts result)) ≡ cond b (f (refuse t.1)) (tried (λ r. f (refuse r)) ts (f result))
      go true e = refl
      go false e = e

module _ {A : Type 0} (refuse : Refusal → A) where
  -- where no test holds, the answer is the result
  pub tried_passed : (ts : List (Bool × Refusal)) (result : A) → passed ts ≡ true → tried refuse ts result ≡ result
  unfolding tried passed
  tried_passed [] result e = refl
  tried_passed (t ∷ ts) result e = go t.0 (tried_passed ts result) e
    where
      go : (b : Bool) → (passed ts ≡ true → tried refuse ts result ≡ result) → (not b && passed ts) ≡ true → cond b (refuse t.1) (tried refuse ts result) ≡ result
      go true ih e = cc
      go false ih e = ih e

  -- the tests of a list come before those after it
  pub tried_append : (ts us : List (Bool × Refusal)) (result : A) → tried refuse (ts ++ us) result ≡ tried refuse ts (tried refuse us result)
  unfolding tried
  tried_append [] us result = refl
  tried_append (t ∷ ts) us result = ap (λ (x : A). cond t.0 (refuse t.1) x) (tried_append ts us result)

-- ---- tests none of which holds
pub passed_first : (t : Bool × Refusal) (ts : List (Bool × Refusal)) → passed (t ∷ ts) ≡ true → t.0 ≡ false
unfolding passed
passed_first (true, r) ts e = absurd (false≢true e)
passed_first (false, r) ts e = refl

pub passed_rest : (t : Bool × Refusal) (ts : List (Bool × Refusal)) → passed (t ∷ ts) ≡ true → passed ts ≡ true
unfolding passed
passed_rest (true, r) ts e = absurd (false≢true e)
passed_rest (false, r) ts e = e

pub passed_left : (ts us : List (Bool × Refusal)) → passed (ts ++ us) ≡ true → passed ts ≡ true
unfolding passed
passed_left [] us e = refl
passed_left ((true, r) ∷ ts) us e = absurd (false≢true e)
passed_left ((false, r) ∷ ts) us e = passed_left ts us e

pub passed_right : (ts us : List (Bool × Refusal)) → passed (ts ++ us) ≡ true → passed us ≡ true
unfolding passed
passed_right [] us e = e
passed_right ((true, r) ∷ ts) us e = absurd (false≢true e)
passed_right ((false, r) ∷ ts) us e = passed_right ts us e

-- ---- what comes of tests: none holds, or one does, and its refusal is the answer whatever was to be counted
pub data Verdict (ts : List (Bool × Refusal)) : Type 0 where
  passes : passed ts ≡ true → Verdict ts
  refuses : (r : Refusal) → ((count : ℕ) → counted ts count ≡ Err r) → Verdict ts

pub verdict : (ts : List (Bool × Refusal)) → Verdict ts
unfolding tried passed
verdict [] = passes refl
verdict ((true, r) ∷ ts) = refuses r (λ count. refl)
verdict ((false, r) ∷ ts) = elim (verdict ts) [ passes p ↦ passes p | refuses q f ↦ refuses q f ]

-- a refusal is no count, and what is said of it no result
pub no_count : (r : Refusal) (k : ℕ) → Ok k ≡ Err r → ⊥
no_count r k e = clash cc

pub no_result : (s : Stated) (values : List ℕ) → answered values ≡ refused s → ⊥
no_result s values e = clash cc

-- where a result is said, no test held, and it is the result
pub answered_passed : (ts : List (Bool × Refusal)) (values result : List ℕ) → answered values ≡ tried refusing ts (answered result) → (passed ts ≡ true) × (values ≡ result)
unfolding tried passed
answered_passed [] values result e = (refl, cc e)
answered_passed ((true, r) ∷ ts) values result e = absurd (no_result (stated r) values e)
answered_passed ((false, r) ∷ ts) values result e = answered_passed ts values result e
