-- A side says what it was made of, and nothing else does. Assumes nothing.
use mathlib.Core.Path.{◌≡◌, refl, ap, ◌∙◌}
use mathlib.Core.Bool.{Bool, true, false, ◌&&◌, ◌||◌, false≢true}
use Rattle.charts.specs.declared.Side.{Side}
use Rattle.charts.specs.declared.Side.TheVariants as Sided
use Rattle.charts.specs.declared.Sum.{Sum}
use Rattle.charts.specs.declared.Sum.TheVariants.{Upper, Lower}
use Rattle.charts.specs.Sides.{side_of, signals, is_above, is_below, faces}

pub side_above : (a b : Bool) → is_above (side_of a b) ≡ a
unfolding side_of
side_above true true = refl
side_above true false = refl
side_above false true = refl
side_above false false = refl

pub side_below : (a b : Bool) → is_below (side_of a b) ≡ b
unfolding side_of
side_below true true = refl
side_below true false = refl
side_below false true = refl
side_below false false = refl

-- it is made of nothing else
pub side_made : (s : Side) → side_of (is_above s) (is_below s) ≡ s
unfolding side_of
side_made Sided.None = refl
side_made Sided.Above = refl
side_made Sided.Below = refl
side_made Sided.Both = refl

-- the Rust's yes or no
pub side_signals : (a b : Bool) → signals (side_of a b) ≡ (a || b)
unfolding side_of
side_signals true true = refl
side_signals true false = refl
side_signals false true = refl
side_signals false false = refl

-- of a reading that has the side of `above` and `below` where `finite` holds, and none where it does not
pub finite_signals : (finite above below : Bool) (s : Side) → (finite ≡ true → s ≡ side_of above below) → (finite ≡ false → s ≡ Sided.None) → signals s ≡ (finite && (above || below))
finite_signals true above below s side none = ap signals (side refl) ∙ side_signals above below
finite_signals false above below s side none = ap signals (none refl)

-- a side that is a sum's is a signal
pub faces_signals : (sum : Sum) (s : Side) → faces sum s ≡ true → signals s ≡ true
faces_signals Upper Sided.None e = absurd (false≢true e)
faces_signals Upper Sided.Above e = refl
faces_signals Upper Sided.Below e = refl
faces_signals Upper Sided.Both e = refl
faces_signals Lower Sided.None e = absurd (false≢true e)
faces_signals Lower Sided.Above e = refl
faces_signals Lower Sided.Below e = refl
faces_signals Lower Sided.Both e = refl
