-- The side of a record: where it signals. Rules 5.2 and 8.3. Definitions only.
use Rattle.std.specs.Prelude.{ℕ, Bool, true, false, cond}
use Rattle.charts.specs.declared.Side.{Side}
use Rattle.charts.specs.declared.Side.TheVariants as Sided
use Rattle.charts.specs.declared.Sum.{Sum}
use Rattle.charts.specs.declared.Sum.TheVariants.{Upper, Lower}

-- the side of a reading, by whether it signals `above` and whether it signals `below`
unfoldable pub side_of : Bool → Bool → Side
side_of above below = cond above (cond below Sided.Both Sided.Above) (cond below Sided.Below Sided.None)

-- a signal is any side but none
abbrev pub signals : Side → Bool
signals Sided.None = false
signals Sided.Above = true
signals Sided.Below = true
signals Sided.Both = true

-- above or both, and below or both
abbrev pub is_above : Side → Bool
is_above Sided.None = false
is_above Sided.Above = true
is_above Sided.Below = false
is_above Sided.Both = true

abbrev pub is_below : Side → Bool
is_below Sided.None = false
is_below Sided.Above = false
is_below Sided.Below = true
is_below Sided.Both = true

-- a side is that of a sum: above or both for the upper, below or both for the lower
abbrev pub faces : Sum → Side → Bool
faces Upper side = is_above side
faces Lower side = is_below side

-- as a number: any but 0 is a signal
abbrev pub side_number : Side → ℕ
side_number Sided.None = 0
side_number Sided.Above = 1
side_number Sided.Below = 2
side_number Sided.Both = 3
