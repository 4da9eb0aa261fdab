-- The edges of a search by computation: a short series before the slots, a double that does not wrap, and the rest of the cuts area. Assumes nothing.
use Prim.Native.Nat.{◌^◌}
use mathlib.Core.Path.{◌≡◌, refl}
use mathlib.Core.List.{List, [], ◌∷◌}
use mathlib.Core.Option.{none, some}
use lib.Ieee.{Float}
use Rattle.floats.specs.Numbers.{of_whole}
use Rattle.costs.specs.declared.CostFunction.TheVariants.{L2}
use Rattle.costs.specs.declared.Penalty.TheVariants.{Bic, Custom}
use Rattle.search_answer.specs.Search.{cuts_found}
use Rattle.search_answer.specs.Outcome.{cuts_left}

abbrev five : List Float
five = of_whole 0 ∷ of_whole 0 ∷ of_whole 4 ∷ of_whole 4 ∷ of_whole 4 ∷ []

-- five readings are fewer than twice three, so that there is nothing to lend slots for
short_before_slots : cuts_found L2 (Custom (of_whole 1)) 3 five 5 1 0 ≡ some []
unfolding cuts_found
short_before_slots = refl

-- twice the least length is not taken modulo 2^64
no_wrapped_double : cuts_found L2 Bic (2 ^ 63) five 5 1 0 ≡ some []
unfolding cuts_found
no_wrapped_double = refl

-- one cut takes the first of three places
rest_is_left : cuts_left (some (2 ∷ [])) (7 ∷ 8 ∷ 9 ∷ []) ≡ 2 ∷ 8 ∷ 9 ∷ []
rest_is_left = refl

-- 9 writes no cut
none_found : cuts_left none (7 ∷ 8 ∷ []) ≡ 7 ∷ 8 ∷ []
none_found = refl
