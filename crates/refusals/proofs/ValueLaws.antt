-- The numbers of refusals are small, and their values are what `values` hands back. Assumes nothing.
use Prim.Native.Nat.{ℕ, ◌≤◌, ◌<◌}
use mathlib.Core.Path.{◌≡◌, refl, sym, ap, ◌∙◌}
use mathlib.Core.List.{List, [], ◌∷◌}
use native.Mathlib.Omega.{arith}
use Rattle.refusals.specs.Stated.{stated, values_of}
use Rattle.refusals.specs.declared.Refusal.{Refusal}
use Rattle.std.specs.Prelude.{Option, Some, None}
use Rattle.refusals.specs.declared.Refusal.TheVariants.{Penalty, MinLen, Channels, Shape, Unequal, TooLong, Room, NonFinite, Pool, Form, Piece, Target, Sigma, Weight, Bound}

-- a number is above 0 and has two digits at the most
pub number_bounds : (r : Refusal) → (0 < (stated r).number) × ((stated r).number ≤ 99)
number_bounds Penalty = (omega arith, omega arith)
number_bounds MinLen = (omega arith, omega arith)
number_bounds Channels = (omega arith, omega arith)
number_bounds Shape = (omega arith, omega arith)
number_bounds Unequal = (omega arith, omega arith)
number_bounds TooLong = (omega arith, omega arith)
number_bounds Room = (omega arith, omega arith)
number_bounds (NonFinite channel index) = (omega arith, omega arith)
number_bounds Pool = (omega arith, omega arith)
number_bounds Form = (omega arith, omega arith)
number_bounds Piece = (omega arith, omega arith)
number_bounds Target = (omega arith, omega arith)
number_bounds Sigma = (omega arith, omega arith)
number_bounds Weight = (omega arith, omega arith)
number_bounds Bound = (omega arith, omega arith)

-- a refusal has two values, those that `values` hands back, or none
pub values_listed : Option (ℕ × ℕ) → List ℕ
values_listed None = []
values_listed (Some v) = v.0 ∷ v.1 ∷ []

pub values_are : (r : Refusal) → (stated r).values ≡ values_listed (values_of r)
unfolding values_of values_listed
values_are Penalty = refl
values_are MinLen = refl
values_are Channels = refl
values_are Shape = refl
values_are Unequal = refl
values_are TooLong = refl
values_are Room = refl
values_are (NonFinite channel index) = refl
values_are Pool = refl
values_are Form = refl
values_are Piece = refl
values_are Target = refl
values_are Sigma = refl
values_are Weight = refl
values_are Bound = refl

-- both values where there are some, and none where there are none
pub values_both : (r : Refusal) (first second : ℕ) → Some (first, second) ≡ values_of r → (stated r).values ≡ first ∷ second ∷ []
unfolding values_listed
values_both r first second e = values_are r ∙ ap values_listed (sym e)

pub values_none : (r : Refusal) → None ≡ values_of r → (stated r).values ≡ []
unfolding values_listed
values_none r e = values_are r ∙ ap values_listed (sym e)
