-- The negative zero: it equals +0, and has a sign. Definitions only.
use Rattle.std.specs.Prelude.{true, pos, Float}
use Rattle.std.specs.Float.{fin}

abbrev pub negative_zero : Float
negative_zero = fin true 0 (pos 0)
