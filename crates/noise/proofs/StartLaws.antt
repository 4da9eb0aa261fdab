-- No noise variance is -0, so that their sum over the channels is the same whichever zero it starts at. Assumes nothing.
use mathlib.Core.Path.{◌≡◌}
use mathlib.Core.Bool.{Bool, true, false, cond}
use mathlib.Core.List.{List}
use lib.Dec.{ltb}
use lib.IntN.{pos}
use lib.ListN.{length}
use lib.Ieee.{Float, fin}
use Rattle.floats.specs.Numbers.{◌+ᶠ◌, ◌*ᶠ◌, +0}
use Rattle.floats.proofs.MinusZero.{Plain, plain_zero, plain_square, plain_from_either_zero}
use Rattle.noise.specs.Noise.{noise}

zero_or_square : (b : Bool) (x : Float) → Plain (cond b +0 (x *ᶠ x))
zero_or_square true x = plain_zero
zero_or_square false x = plain_square x

-- the first channel's noise variance, added to the zero that a sum starts at
pub noise_from_either_zero : (z : Bool) (xs : List Float) → fin z 0 (pos 0) +ᶠ noise xs ≡ noise xs
unfolding noise
noise_from_either_zero z xs = plain_from_either_zero z (zero_or_square (ltb (length xs) 2) _)
