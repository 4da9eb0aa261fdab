-- No logarithm is -0: the power of two's share of the sum is not -0, and a sum is -0 only where both its values are. Assumes nothing.
use Rattle.std.proofs.Common.{zero, suc, ◌^◌, true, false, ℤ, refl}
use lib.Ieee.{Float, nan, inf, fin, binary64, round, fits, of_int}
use lib.Ieee.Fits.{add-fits, round-fits}
use Rattle.floats.specs.Numbers.{◌+ᶠ◌, ◌*ᶠ◌, ◌/ᶠ◌, of_whole, ratio}
use Rattle.floats.proofs.MinusZero.{Plain, plain_add}
use Rattle.floats.proofs.WholeTimes.{integer_times}
use Rattle.elementary.specs.Logarithm.{ln_two_high, ln_two_low, ln, ln_scaled, ln_of, series}

-- `e` times the high part of ln 2 is not -0, so neither is the result
of_plain : (e : ℤ) (s : Float) → Plain (ln_of e s)
unfolding ln_of ratio
of_plain e s =
    let t = of_whole 2 *ᶠ s *ᶠ series 10 (s *ᶠ s) (of_whole 1 /ᶠ of_whole 21) in
    let l = of_int binary64 e *ᶠ ln_two_low in
    plain_add (t +ᶠ l) (integer_times e ln_two_high (round-fits binary64 false 2977044471 (2 ^ 32)) (unfold round in tt)) (add-fits binary64 t l)

pub ln_plain : (x : Float) → Plain (ln x)
unfolding ln ln_scaled
ln_plain nan = record { held = unfold fits in tt; other = refl }
ln_plain (inf true) = record { held = unfold fits in tt; other = refl }
ln_plain (inf false) = record { held = unfold fits in tt; other = refl }
ln_plain (fin s zero e) = record { held = unfold fits in tt; other = refl }
ln_plain (fin true (suc m) e) = record { held = unfold fits in tt; other = refl }
ln_plain (fin false (suc m) e) = of_plain _ _
