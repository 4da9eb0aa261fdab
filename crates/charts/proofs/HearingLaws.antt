-- What is said of a run length leaves one answer. Assumes nothing.
use mathlib.Core.Path.{◌≡◌, refl, ap}
use Rattle.std.specs.Prelude.{ℕ, Result, Ok, Err, Option, Some, None}
use Rattle.refusals.specs.declared.Refusal.{Refusal}
use Rattle.refusals.proofs.Apart.{refused_apart}
use Rattle.charts.specs.Hearing.{heard_as}

pub heard_once : (r q : Result (Option ℕ) Refusal) → heard_as r ≡ heard_as q → r ≡ q
heard_once (Ok (Some n)) (Ok (Some m)) e = cc
heard_once (Ok None) (Ok None) e = refl
heard_once (Err r) (Err q) e = ap Err (refused_apart r q e)
heard_once (Ok (Some n)) (Ok None) e = cc
heard_once (Ok (Some n)) (Err q) e = cc
heard_once (Ok None) (Ok (Some m)) e = cc
heard_once (Ok None) (Err q) e = cc
heard_once (Err r) (Ok (Some m)) e = cc
heard_once (Err r) (Ok None) e = cc
