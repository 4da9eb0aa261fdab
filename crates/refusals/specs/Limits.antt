-- The limits that every call keeps. Rule 1.3. Definitions only.
use Rattle.std.specs.Prelude.{ℕ}

-- the most channels of a run; more are refusal 3
abbrev pub max_channels : ℕ
max_channels = 8

-- the most readings of a channel or a series, and of a run length; more are refusal 6
abbrev pub max_readings : ℕ
max_readings = 4096
