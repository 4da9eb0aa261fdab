-- Whether a value is finite, and its magnitude. Rule 1.7. Definitions only.
use Rattle.std.specs.Prelude.{false, Float}
use Rattle.std.specs.Float.{nan, inf, fin}
-- whether a value is neither NaN nor an infinity: the library's own definition
pub use Rattle.std.specs.Float.Ieee.Scale.{finite}

-- the magnitude: the value with its sign clear; NaN stays
unfoldable pub abs : Float → Float
abs nan = nan
abs (inf s) = inf false
abs (fin s m e) = fin false m e
