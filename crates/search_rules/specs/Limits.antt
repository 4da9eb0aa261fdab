-- The limits that a search keeps. Rules 2.1, 2.3 and 3.7. Definitions only.
use Rattle.std.specs.Prelude.{ℕ}

-- the least that a minimum length may be; less is refusal 2
abbrev pub least_minimum : ℕ
least_minimum = 2

-- the most channels on which the L2 cost takes the functional search
abbrev pub functional_channels : ℕ
functional_channels = 2

-- the floats of a slot of the pool, in which one candidate lives
abbrev pub slot_floats : ℕ
slot_floats = 200
