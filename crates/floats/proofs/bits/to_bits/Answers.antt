-- `floats::bits::to_bits` meets its contract: only NaN differs from itself. Assumes nothing.
use mathlib.Core.Path.{◌≡◌, refl, sym, ap, ◌∙◌, subst}
use mathlib.Core.Bool.{false, not, true≢false}
use lib.Dec.{T}
use lib.Ieee.{Float, nan, inf, fin, binary64, to_bits, is_nan, ne}
use lib.Ieee.Compare.{differs_from_itself, nan_differs}
use Rattle.floats.proofs.bits.to_bits.Goals as goal

itself_no_nan : (x : Float) → ne x x ≡ false → T (not (is_nan x))
unfolding is_nan
itself_no_nan nan h = absurd (true≢false (sym nan_differs ∙ h))
itself_no_nan (inf s) h = tt
itself_no_nan (fin s m e) h = tt

nan_pattern : 0x7ff8_0000_0000_0000 ≡ to_bits binary64 nan
unfolding to_bits
nan_pattern = refl

pub returns-then-x : goal.returns-then-x
returns-then-x c = nan_pattern ∙ ap (to_bits binary64) (sym (differs_from_itself c.args.x (subst T (sym c.if-x.true) tt)))

pub float_to_bits-result : goal.float_to_bits-result
float_to_bits-result c = itself_no_nan c.args.x c.if-x.false
