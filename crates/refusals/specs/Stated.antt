-- What each refusal says: its number, and the values that go with it. Rules 2.1 and 2.2. Definitions only.
use Rattle.std.specs.Prelude.{ℕ, List, [], ◌∷◌, Option, Some, None}
use Rattle.refusals.specs.declared.Refusal.{Refusal}
use Rattle.refusals.specs.declared.Refusal.TheVariants.{Penalty, MinLen, Channels, Shape, Unequal, TooLong, Room, NonFinite, Pool, Form, Piece, Target, Sigma, Weight, Bound}

-- a number, and the values that are given with it
pub record Stated : Type 0 where
  pub number : ℕ
  pub values : List ℕ

-- a number with nothing beside it
abbrev pub plain : ℕ → Stated
plain n = record { number = n; values = [] }

-- the table of rule 2.1, whose numbers have holes; 8 also says the channel and the index
abbrev pub stated : Refusal → Stated
stated Penalty = plain 1
stated MinLen = plain 2
stated Channels = plain 3
stated Shape = plain 4
stated Unequal = plain 5
stated TooLong = plain 6
stated Room = plain 7
stated (NonFinite channel index) = record { number = 8; values = channel ∷ index ∷ [] }
stated Pool = plain 9
stated Form = plain 10
stated Piece = plain 12
stated Target = plain 15
stated Sigma = plain 16
stated Weight = plain 17
stated Bound = plain 18

-- the two of a list of two
abbrev pub both_of : List ℕ → Option (ℕ × ℕ)
both_of (a ∷ b ∷ []) = Some (a, b)
both_of values = None

-- the values that are stated: the channel and the index, or none
unfoldable pub values_of : Refusal → Option (ℕ × ℕ)
values_of r = both_of (stated r).values
