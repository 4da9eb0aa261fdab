-- `c_answers::run_lengths::run_length` meets its contract. Assumes nothing.
use mathlib.Core.Path.{◌≡◌, ap, ◌∙◌}
use mathlib.Core.Bool.{Bool, true, false, not, cond}
use Prim.Native.Nat.{ℕ}
use lib.Dec.{ltb}
use lib.Ieee.{Float}
use Rattle.std.specs.Prelude.{Result, Ok, Err}
use Rattle.refusals.specs.declared.Refusal.{Refusal}
use Rattle.refusals.specs.Tried.{tried}
use Rattle.refusals.specs.Said.{refusing}
use Rattle.charts.specs.declared.Sum.{Sum}
use Rattle.cusum.specs.declared.Cusum.{Cusum}
use Rattle.cusum.specs.RunLength.{run_length}
use Rattle.c_answers.specs.Told.{counted_of, asked_sum, sum_told, run_length_of}
use Rattle.c_answers.proofs.run_lengths.run_length.Goals as goal

module _ (c : Cusum) (v : Float) (asked : ℕ) where
  -- a number that stands for a sum, and another
  known : (sum : Sum) → Ok sum ≡ sum_told asked → run_length c v sum ≡ run_length_of c v asked
  unfolding run_length_of tried
  known sum e = go (ltb asked 2) e
    where
      go : (b : Bool) → ◌≡◌ {A = Result Sum Refusal} (Ok sum) (cond b (Ok (asked_sum asked)) (Err Refusal.Form)) → run_length c v sum ≡ cond (not b) (refusing Refusal.Form) (run_length c v (asked_sum asked))
      go true e = cc
      go false e = cc

  other : (r : Refusal) → Err r ≡ sum_told asked → refusing r ≡ run_length_of c v asked
  unfolding run_length_of tried
  other r e = go (ltb asked 2) e
    where
      go : (b : Bool) → ◌≡◌ {A = Result Sum Refusal} (Err r) (cond b (Ok (asked_sum asked)) (Err Refusal.Form)) → refusing r ≡ cond (not b) (refusing Refusal.Form) (run_length c v (asked_sum asked))
      go true e = cc
      go false e = ap (λ (s : Result Sum Refusal). elim s [ Ok t ↦ refusing r | Err q ↦ refusing q ]) e

pub returns-in-Ok : goal.returns-in-Ok
returns-in-Ok c = c.heard.ensures ∙ ap counted_of (c.run_length.ensures ∙ known c.args.chart c.args.level c.args.asked _ c.in-Ok.ensures)

pub returns-in-Err : goal.returns-in-Err
returns-in-Err c = c.heard-in-Err.ensures ∙ ap counted_of (other c.args.chart c.args.level c.args.asked _ c.in-Err.ensures)
