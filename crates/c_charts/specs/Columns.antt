-- What the arrays of both charts share: the room of the shortest, and which numbers of sides are a sum's. Rule 8.3. Definitions only.
use Rattle.std.specs.Prelude.{ℕ, ◌≡◌, cond, ◌⊎◌, ltb}
use Rattle.charts.specs.declared.Sum.{Sum}
use Rattle.charts.specs.declared.Sum.TheVariants.{Upper, Lower}

-- the shorter of two lengths, and the shortest of four
unfoldable pub shorter : ℕ → ℕ → ℕ
shorter a b = cond (ltb a b) a b

unfoldable pub shortest : ℕ → ℕ → ℕ → ℕ → ℕ
shortest a b c d = shorter (shorter a b) (shorter c d)

-- the number of a side that is a sum's: above or both for the upper, below or both for the lower
abbrev pub Facing : Sum → ℕ → Type 0
Facing Upper number = (number ≡ 1) ⊎ (number ≡ 3)
Facing Lower number = (number ≡ 2) ⊎ (number ≡ 3)
