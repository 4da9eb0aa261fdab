-- `refusals::Refusal::values` meets its contract: 8 carries its channel and its index, and every other refusal nothing. Assumes nothing.
use mathlib.Core.Path.{◌≡◌, refl}
use Prim.Native.Nat.{ℕ}
use Rattle.refusals.specs.Stated.{values_of}
use Rattle.refusals.specs.declared.Refusal.{Refusal}
use Rattle.refusals.specs.declared.Refusal.TheVariants.{Penalty, MinLen, Channels, Shape, Unequal, TooLong, Room, NonFinite, Pool, Form, Piece, Target, Sigma, Weight, Bound}
use Rattle.std.specs.Prelude.{None}
use Rattle.refusals.proofs.Refusal.values.Goals as goal

-- for the other arm of the match
none_of : (r : Refusal) → ((channel index : ℕ) → r ≡ NonFinite channel index → ⊥) → None ≡ values_of r
unfolding values_of
none_of Penalty h = refl
none_of MinLen h = refl
none_of Channels h = refl
none_of Shape h = refl
none_of Unequal h = refl
none_of TooLong h = refl
none_of Room h = refl
none_of (NonFinite channel index) h = absurd (h channel index refl)
none_of Pool h = refl
none_of Form h = refl
none_of Piece h = refl
none_of Target h = refl
none_of Sigma h = refl
none_of Weight h = refl
none_of Bound h = refl

pub returns-in-NonFinite : goal.returns-in-NonFinite
unfolding values_of
returns-in-NonFinite c = rw c.in-NonFinite.is

pub returns-in_default : goal.returns-in_default
returns-in_default c = none_of c.args.self c.in_default.not-NonFinite
