-- The refusals of a search before 9, in the order in which they are tried. Rules 2.1 to 2.4. Definitions only.
use Rattle.std.specs.Prelude.{ℕ, Bool, false, not, ◌&&◌, ◌||◌, List, [], ◌∷◌, ◌++◌, Result, Ok, Err, ltb, length, Float}
use Rattle.floats.specs.Numbers.{◌<ᶠ◌, +0}
use Rattle.floats.specs.Finite.{finite}
use Rattle.refusals.specs.Tried.{tried}
use Rattle.refusals.specs.declared.Refusal.{Refusal}
use Rattle.readings.specs.Shape.{shape_tests, first_length, channels}
use Rattle.readings.specs.Gaps.{gap_to, channel_at, index_at}
use Rattle.readings.specs.declared.Channels.{Channels}
use Rattle.search_rules.specs.Limits.{least_minimum}
use Rattle.search_rules.specs.Room.{cuts_for, room_fits}
use Rattle.costs.specs.declared.Penalty.{Penalty}

-- 1: a custom penalty is not finite or not above 0
unfoldable pub bad_penalty : Penalty → Bool
bad_penalty Penalty.Bic = false
bad_penalty (Penalty.Custom v) = not (finite v && +0 <ᶠ v)

-- 7: the areas have less room than a search of `k` channels of `n` readings asks
unfoldable pub short_room : ℕ → ℕ → ℕ → ℕ → ℕ → Bool
short_room n k cuts floats indices = ltb cuts (cuts_for n) || not (room_fits n k floats indices)

-- 7, then 8 in a strict search only: the lowest channel, then the lowest index whose reading is not finite
unfoldable pub room_tests : Bool → List Float → ℕ → ℕ → ℕ → ℕ → ℕ → List (Bool × Refusal)
room_tests strict run n k cuts floats indices =
    let at = gap_to run (length run) in
    (short_room n k cuts floats indices, Refusal.Room) ∷ (strict && ltb at (length run), Refusal.NonFinite (channel_at n at) (index_at n at)) ∷ []

-- 1 to 8, for a penalty, a minimum length and the lengths of the lent areas
unfoldable pub search_tests : Bool → Penalty → ℕ → List Float → List ℕ → ℕ → ℕ → ℕ → List (Bool × Refusal)
search_tests strict penalty m run lengths cuts floats indices =
    (bad_penalty penalty, Refusal.Penalty)
    ∷ (ltb m least_minimum, Refusal.MinLen)
    ∷ (shape_tests lengths (length run) ++ room_tests strict run (first_length lengths) (length lengths) cuts floats indices)

-- the first of refusals 1 to 8, or the channels
unfoldable pub admitted_as : Bool → Penalty → ℕ → List Float → List ℕ → ℕ → ℕ → ℕ → Result Channels Refusal
admitted_as strict penalty m run lengths cuts floats indices = tried Err (search_tests strict penalty m run lengths cuts floats indices) (Ok (channels (length lengths) (first_length lengths)))
