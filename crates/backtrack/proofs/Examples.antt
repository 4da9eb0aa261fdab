-- Cuts by computation: one cut, two in rising order, none, no readings, too few indices, a predecessor that is not below its own index, and areas with more room and with less. Assumes nothing.
use mathlib.Core.Path.{◌≡◌, refl}
use mathlib.Core.List.{[], ◌∷◌}
use Rattle.backtrack.specs.Cuts.{predecessor_of, back_from, cuts_of, written}

one : cuts_of (0 ∷ 0 ∷ 0 ∷ 0 ∷ 2 ∷ []) 4 ≡ 2 ∷ []
unfolding cuts_of back_from predecessor_of
one = refl

two : cuts_of (0 ∷ 0 ∷ 0 ∷ 0 ∷ 2 ∷ 2 ∷ 4 ∷ []) 6 ≡ 2 ∷ 4 ∷ []
unfolding cuts_of back_from predecessor_of
two = refl

none : cuts_of (0 ∷ 0 ∷ 0 ∷ 0 ∷ 0 ∷ []) 4 ≡ []
unfolding cuts_of back_from predecessor_of
none = refl

no_readings : cuts_of (0 ∷ []) 0 ≡ []
unfolding cuts_of back_from predecessor_of
no_readings = refl

too_few_indices : cuts_of (0 ∷ 0 ∷ 0 ∷ 0 ∷ 2 ∷ []) 5 ≡ []
unfolding cuts_of back_from predecessor_of
too_few_indices = refl

-- no search records the 3 at the index 2: the walk ends there
not_below : cuts_of (0 ∷ 0 ∷ 3 ∷ 0 ∷ 2 ∷ []) 4 ≡ 2 ∷ []
unfolding cuts_of back_from predecessor_of
not_below = refl

room : written (2 ∷ 4 ∷ []) (9 ∷ 8 ∷ 7 ∷ []) ≡ 2 ∷ 4 ∷ 7 ∷ []
unfolding written
room = refl

less_room : written (2 ∷ 4 ∷ []) (9 ∷ []) ≡ 2 ∷ []
unfolding written
less_room = refl
