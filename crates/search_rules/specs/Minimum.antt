-- The first strict minimum in scan order. Rule 3.8. Definitions only.
use Rattle.std.specs.Prelude.{ℕ, zero, suc, Bool, cond, List, [], ◌∷◌, ◌++◌, get_or, Float}
use Rattle.floats.specs.Numbers.{◌<ᶠ◌, +∞}
use Rattle.search_rules.specs.declared.Best.{Best}

-- the best before the first candidate: with no total below infinity the predecessor is 0
unfoldable pub none_yet : Best
none_yet = record { cost = +∞; tau = 0 }

-- `tau` with its `total` where that is strictly below the lowest so far, and `best` otherwise
unfoldable pub better_of : Best → Float → ℕ → Best
better_of best total tau = cond (total <ᶠ best.cost) (record { cost = total; tau = tau }) best

-- the best by `total` of the first of `candidates`, among those that `takes_part` lets in; the last argument says how many are looked at
unfoldable pub scan_to : (ℕ → Bool) → (ℕ → Float) → List ℕ → ℕ → Best
scan_to takes_part total candidates zero = none_yet
scan_to takes_part total candidates (suc j) =
    let before = scan_to takes_part total candidates j in
    let tau = get_or candidates j 0 in
    cond (takes_part tau) (better_of before (total tau) tau) before

-- those of the first of `candidates` that pass `stays`, in their order; the last argument says how many are looked at
unfoldable pub kept_to : (ℕ → Bool) → List ℕ → ℕ → List ℕ
kept_to stays candidates zero = []
kept_to stays candidates (suc j) =
    let before = kept_to stays candidates j in
    let tau = get_or candidates j 0 in
    cond (stays tau) (before ++ (tau ∷ [])) before
