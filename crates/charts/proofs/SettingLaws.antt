-- Laws of a chart's settings: their tests come before all others, none holds exactly where all four are in range, and the refusal of a call names the first that is not. Assumes nothing.
use mathlib.Core.Path.{◌≡◌, refl, sym, ap, ◌∙◌}
use Prim.Native.Nat.{ℕ, ◌<◌}
use mathlib.Core.Bool.{Bool, true, false, not, ◌&&◌, cond}
use mathlib.Core.List.{List, [], ◌∷◌, ◌++◌}
use native.Mathlib.Omega.{arith}
use lib.ListN.{length}
use Rattle.std.specs.Prelude.{Result, Ok, Err, ⊤}
use Rattle.refusals.specs.Stated.{stated}
use Rattle.refusals.specs.Tried.{tried, passed, count_of}
use Rattle.refusals.specs.Said.{answered, refusing, said}
use Rattle.refusals.proofs.Apart.{refused_apart}
use Rattle.refusals.proofs.TriedLaws.{tried_map, tried_append, no_result}
use Rattle.refusals.specs.declared.Refusal.{Refusal}
use Rattle.charts.specs.declared.InRange.{InRange}
use Rattle.charts.specs.Settings.{setting_tests, tested_as, after_settings, Named, target_wrong, sigma_wrong, weight_wrong, bound_wrong, none_wrong}
use Rattle.charts.specs.Answers.{size_tests, chart_answer, admitted_as, admitted_after}
use Rattle.charts.specs.Outcomes.{analyzed, provided, signalled}
use Rattle.charts.specs.Runs.{lent}
use Rattle.charts.proofs.Answers.{answer_said}

-- the settings' tests `ts`, and after them `us`
pub tested_first : {A : Type 0} (refuse : Refusal → A) (ts us : List (Bool × Refusal)) (result : A) → after_settings refuse (tested_as ts) (tried refuse us result) ≡ tried refuse (ts ++ us) result
tested_first refuse ts us result = tried_map (λ (s : Result ⊤ Refusal). after_settings refuse s (tried refuse us result)) Err ts (Ok tt) ∙ sym (tried_append refuse ts us result)

pub admitted_tested : (ts : List (Bool × Refusal)) (n room : ℕ) → admitted_after (tested_as ts) n room ≡ admitted_as ts n room
unfolding chart_answer
admitted_tested ts n room = tested_first Err ts (size_tests n room) (Ok n)

pub settings_pass : (s : InRange) → passed (setting_tests s) ≡ (s.target && s.sigma && s.weight && s.bound)
unfolding passed
settings_pass s = go s.target s.sigma s.weight s.bound
  where
    go : (target sigma weight bound : Bool) → (not (not target) && (not (not sigma) && (not (not weight) && (not (not bound) && true)))) ≡ (target && sigma && weight && bound)
    go true true true true = refl
    go true true true false = refl
    go true true false bound = refl
    go true false weight bound = refl
    go false sigma weight bound = refl

-- ---- what a refusal says of the settings, where after them other tests are tried, whose refusals have lower numbers
abbrev pub RefusesLow : List (Bool × Refusal) → Type 0
RefusesLow [] = Unit {0}
RefusesLow (u ∷ us) = ((stated u.1).number < 15) × RefusesLow us

low : (us : List (Bool × Refusal)) (values : List ℕ) (r : Refusal) → RefusesLow us → tried refusing us (answered values) ≡ refusing r → (stated r).number < 15
unfolding tried
low [] values r h e = absurd (no_result (stated r) values e)
low ((true, q) ∷ us) values r h e = rw (← refused_apart q r e) h.0
low ((false, q) ∷ us) values r h e = low us values r h.1 e

module _ (us : List (Bool × Refusal)) (h : RefusesLow us) (values : List ℕ) (r : Refusal) where
  pub refusal_names : (s : InRange) → tried refusing (setting_tests s ++ us) (answered values) ≡ refusing r → Named s r
  unfolding tried
  refusal_names s e = go s.target s.sigma s.weight s.bound refl refl refl refl e
    where
      go : (a b c d : Bool) → s.target ≡ a → s.sigma ≡ b → s.weight ≡ c → s.bound ≡ d
          → cond (not a) (refusing Refusal.Target) (cond (not b) (refusing Refusal.Sigma) (cond (not c) (refusing Refusal.Weight) (cond (not d) (refusing Refusal.Bound) (tried refusing us (answered values))))) ≡ refusing r → Named s r
      go false b c d t v w x e = target_wrong (sym (refused_apart Refusal.Target r e)) t
      go true false c d t v w x e = sigma_wrong (sym (refused_apart Refusal.Sigma r e)) t v
      go true true false d t v w x e = weight_wrong (sym (refused_apart Refusal.Weight r e)) t v w
      go true true true false t v w x e = bound_wrong (sym (refused_apart Refusal.Bound r e)) t v w x
      go true true true true t v w x e = none_wrong (low us values r h e) t v w x

answer_names : (s : InRange) (n room count : ℕ) (r : Refusal) → Err r ≡ chart_answer (setting_tests s) n room count → Named s r
answer_names s n room count r e = refusal_names (size_tests n room) small (count ∷ []) r s (sym (answer_said (setting_tests s) n room count) ∙ sym (ap said e))
  where
    small : RefusesLow (size_tests n room)
    small = (omega arith, (omega arith, tt))

-- ---- of a chart's calls: a refusal names the setting, and changes nothing that was lent
pub analyzed_refused : {D : Type 0} (s : InRange) (n : ℕ) (records : ℕ → List D) (entry exit : List D) (r : Refusal) → records 0 ≡ []
    → ◌≡◌ {A = Result ℕ Refusal × List D} (Err r, exit) (analyzed (setting_tests s) n records entry) → Named s r × (exit ≡ entry)
analyzed_refused {D} s n records entry exit r z e =
    let answer : Err r ≡ admitted_as (setting_tests s) n (length entry) = ap (λ (o : Result ℕ Refusal × List D). o.0) e in
    (answer_names s n (length entry) n r answer, ap (λ (o : Result ℕ Refusal × List D). o.1) e ∙ ap (λ (a : Result ℕ Refusal). lent (records (count_of a)) entry) (sym answer) ∙ ap (λ (l : List D). lent l entry) z)

pub signalled_refused : (s : InRange) (n : ℕ) (points entry exit : List ℕ) (r : Refusal)
    → ◌≡◌ {A = Result ℕ Refusal × List ℕ} (Err r, exit) (signalled (setting_tests s) n points entry) → Named s r × (exit ≡ entry)
signalled_refused s n points entry exit r e =
    let answer : Err r ≡ chart_answer (setting_tests s) n (length entry) (length points) = ap (λ (o : Result ℕ Refusal × List ℕ). o.0) e in
    (answer_names s n (length entry) (length points) r answer, ap (λ (o : Result ℕ Refusal × List ℕ). o.1) e ∙ ap (λ (a : Result ℕ Refusal). lent (provided a points) entry) (sym answer))
