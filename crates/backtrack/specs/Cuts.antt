-- The cuts by a list of predecessors. Rule 3.17. Definitions only.
use Rattle.std.specs.Prelude.{ℕ, zero, suc, cond, List, [], ◌∷◌, ◌++◌, ltb, length, get_or, take, drop}

-- the predecessor of `t` in `last`; 0 where it is not below `t`, which no search records, so that a walk back over any list ends
unfoldable pub predecessor_of : List ℕ → ℕ → ℕ
predecessor_of last t = let tau = get_or last t 0 in cond (ltb tau t) tau 0

-- `t`, its predecessor, and so on back until 0, lowest first; `k` bounds how many
unfoldable pub back_from : ℕ → List ℕ → ℕ → List ℕ
back_from zero last t = []
back_from (suc k) last zero = []
back_from (suc k) last (suc t) = back_from k last (predecessor_of last (suc t)) ++ (suc t ∷ [])

-- the cuts of `n` readings: from the predecessor of `n` back; each is below the one before it, so `n` bounds how many
unfoldable pub cuts_of : List ℕ → ℕ → List ℕ
cuts_of last n = back_from n last (predecessor_of last n)

-- `before` with `cuts` at its front, as far as it has room, and unchanged behind them
unfoldable pub written : List ℕ → List ℕ → List ℕ
written cuts before = take (length before) cuts ++ drop (length cuts) before
