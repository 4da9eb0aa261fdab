-- `c_answers::heard` meets its contract: a level that is not heard is told as 0. Assumes nothing.
use mathlib.Core.Path.{◌≡◌, refl}
use mathlib.Core.List.{[], ◌∷◌}
use Prim.Native.Nat.{ℕ}
use Rattle.std.specs.Prelude.{Ok, Option, Some, None, unwrap_or}
use Rattle.refusals.specs.Said.{answered}
use Rattle.charts.specs.Hearing.{heard_as}
use Rattle.c_answers.specs.Told.{told_of, briefly, counted_of}
use Rattle.c_answers.proofs.heard.Goals as goal

reads : (reading : Option ℕ) → briefly (told_of (answered (unwrap_or reading 0 ∷ []))) ≡ counted_of (heard_as (Ok reading))
unfolding told_of
reads None = refl
reads (Some n) = refl

pub returns-in-Ok : goal.returns-in-Ok
returns-in-Ok c = rw (c.brief.ensures, c.result.ensures, c.unwrap_or.ensures, c.in-Ok.is) (reads c.in-Ok.reading)
