-- The tests of a chart's settings, in their order. Rules 2.4 and 5.1. Definitions only.
use Rattle.std.specs.Prelude.{◌<◌, ◌≡◌, Bool, true, false, not, List, [], ◌∷◌, Result, Ok, Err, ⊤}
use Rattle.refusals.specs.Stated.{stated}
use Rattle.refusals.specs.Tried.{tried}
use Rattle.refusals.specs.declared.Refusal.{Refusal}
use Rattle.charts.specs.declared.InRange.{InRange}

-- 15 to 18, of settings of which `s` says whether each is in range
abbrev pub setting_tests : InRange → List (Bool × Refusal)
setting_tests s = (not s.target, Refusal.Target) ∷ (not s.sigma, Refusal.Sigma) ∷ (not s.weight, Refusal.Weight) ∷ (not s.bound, Refusal.Bound) ∷ []

-- what the settings' `tests` come to: the refusal of the first that holds, or that the settings are accepted
abbrev pub tested_as : List (Bool × Refusal) → Result ⊤ Refusal
tested_as tests = tried Err tests (Ok tt)

-- what is answered after the settings: `rest` where they are accepted, and else their refusal, of which `refuse` makes an answer
abbrev pub after_settings : {A : Type 0} → (Refusal → A) → Result ⊤ Refusal → A → A
after_settings refuse (Ok tt) rest = rest
after_settings refuse (Err r) rest = refuse r

-- what the refusal `r` of a chart's call says of its settings: 15 to 18 name the first that is out of range, and a lower number says that none is
pub data Named (s : InRange) (r : Refusal) : Type 0 where
  target_wrong : r ≡ Refusal.Target → s.target ≡ false → Named s r
  sigma_wrong : r ≡ Refusal.Sigma → s.target ≡ true → s.sigma ≡ false → Named s r
  weight_wrong : r ≡ Refusal.Weight → s.target ≡ true → s.sigma ≡ true → s.weight ≡ false → Named s r
  bound_wrong : r ≡ Refusal.Bound → s.target ≡ true → s.sigma ≡ true → s.weight ≡ true → s.bound ≡ false → Named s r
  none_wrong : (stated r).number < 15 → s.target ≡ true → s.sigma ≡ true → s.weight ≡ true → s.bound ≡ true → Named s r
