-- `logarithms::groups::sums_of` meets its contract: ten turns from 1/21 on. Assumes nothing.
use mathlib.Core.Path.{◌≡◌, refl}
use Prim.Native.Nat.{◌+◌, ◌*◌}
use lib.Ieee.{of_int, of_bits, div}
use Rattle.floats.specs.Numbers.{◌/ᶠ◌, of_whole}
use Rattle.logarithms.proofs.GroupLaws.{each_begun, each_turned}
use Rattle.logarithms.proofs.groups.sums_of.Goals as goal

-- the last term
one : of_whole 1 ≡ of_whole 1 /ᶠ of_whole (2 * 0 + 1)
unfolding div of_int
one = refl

pub returns : goal.returns
unfolding of_int of_bits
returns c = let z = c.squared-z.ensures in each_turned 0 {term = of_whole 1} one z (each_turned 1 refl z (each_turned 2 refl z (each_turned 3 refl z (each_turned 4 refl z (each_turned 5 refl z (each_turned 6 refl z (each_turned 7 refl z (each_turned 8 refl z (each_turned 9 refl z (each_begun 16 _ _ refl) c.turned-p.ensures) c.turned-p-2.ensures) c.turned-p-3.ensures) c.turned-p-4.ensures) c.turned-p-5.ensures) c.turned-p-6.ensures) c.turned-p-7.ensures) c.turned-p-8.ensures) c.turned-p-9.ensures) c.turned.ensures
