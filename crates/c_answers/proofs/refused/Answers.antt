-- `c_answers::refused` meets its contract: the number and the values are the refusal's own. Assumes nothing.
use mathlib.Core.Path.{◌≡◌, refl}
use Prim.Native.Nat.{ℕ}
use lib.ListN.{get_or}
use Rattle.std.specs.Prelude.{Option, Some, None, unwrap_or}
use Rattle.refusals.specs.declared.Refusal.{Refusal}
use Rattle.refusals.specs.Stated.{stated, values_of}
use Rattle.refusals.proofs.ValueLaws.{values_both, values_none}
use Rattle.c_answers.specs.Told.{told_as, told_of}
use Rattle.c_answers.proofs.refused.Goals as goal

both : (number : ℕ) (r : Refusal) (o : Option (ℕ × ℕ)) → o ≡ values_of r → told_as number 0 (unwrap_or o (0, 0)).0 (unwrap_or o (0, 0)).1 ≡ told_as number 0 (get_or (stated r).values 0 0) (get_or (stated r).values 1 0)
both number r None e = rw (values_none r e)
both number r (Some v) e = rw (values_both r v.0 v.1 e)

pub returns : goal.returns
unfolding told_of
returns c = rw (c.unwrap_or-channel.ensures, c.values.ensures, c.number_of-number.ensures) (both _ c.args.refusal _ refl)
