-- The inequality search. Rules 3.8 and 3.9. Definitions only.
use Rattle.std.specs.Prelude.{ℕ, zero, suc, ◌+◌, ◌-◌, Bool, cond, List, [], ◌∷◌, ◌++◌, leb, length, get_or, set, replicate, Float}
use Rattle.std.specs.Float.{nan}
use Rattle.std.specs.Float.Ieee.{neg}
use Rattle.floats.specs.Numbers.{◌+ᶠ◌, ◌<ᶠ◌, +0, -∞}
use Rattle.costs.specs.Costs.{cost_to}
use Rattle.costs.specs.declared.CostFunction.{CostFunction}
use Rattle.search_rules.specs.declared.Best.{Best}
use Rattle.search_rules.specs.Minimum.{scan_to, kept_to}

-- F and the predecessors of 0 to n, of which those before t are known, and the candidates, in order
pub record State : Type 0 where
  pub f : List Float
  pub last : List ℕ
  pub candidates : List ℕ

-- the candidate `tau` counts in the minimum at `t` from the age of `m` on
unfoldable pub old_enough : ℕ → ℕ → ℕ → Bool
old_enough m t tau = leb m (t - tau)

-- the weight of the candidate `tau` at `t`: F(tau), by `f`, plus the cost from `tau` to `t`; a candidate younger than `m` is held as minus infinity
unfoldable pub part_of : (ℕ → ℕ → Float) → ℕ → List Float → ℕ → ℕ → Float
part_of cost m f t tau = cond (old_enough m t tau) (get_or f tau nan +ᶠ cost tau t) -∞

-- the best at `t` of the candidates of `s`: the lowest weight plus `penalty`, among those that are at least `m` old
unfoldable pub best_at : (ℕ → ℕ → Float) → Float → ℕ → ℕ → State → Best
best_at cost penalty m t s = scan_to (old_enough m t) (λ tau. part_of cost m s.f t tau +ᶠ penalty) s.candidates (length s.candidates)

-- the candidate `tau` stays exactly when its weight is below F(t) plus the penalty, where `ft` is F(t)
unfoldable pub stays_at : (ℕ → ℕ → Float) → Float → ℕ → ℕ → List Float → Float → ℕ → Bool
stays_at cost penalty m t f ft tau = part_of cost m f t tau <ᶠ ft +ᶠ penalty

-- the step at `t`: F(t) and its predecessor are noted, candidates go, then `t` joins
unfoldable pub step_of : (ℕ → ℕ → Float) → Float → ℕ → ℕ → State → State
step_of cost penalty m t s =
    let best = best_at cost penalty m t s in
    record {
      f = set s.f t best.cost;
      last = set s.last t best.tau;
      candidates = kept_to (stays_at cost penalty m t s.f best.cost) s.candidates (length s.candidates) ++ (t ∷ []);
    }

-- the state after some steps, t from `m` up: F(0) is minus the penalty, and 0 is the one candidate at first; the last argument says how many steps
unfoldable pub state_after : (ℕ → ℕ → Float) → Float → ℕ → ℕ → ℕ → State
state_after cost penalty m n zero = record { f = set (replicate (n + 1) +0) 0 (neg penalty); last = replicate (n + 1) 0; candidates = 0 ∷ [] }
state_after cost penalty m n (suc d) = step_of cost penalty m (m + d) (state_after cost penalty m n d)

-- the predecessors of 0 to `n` after the whole search, whose last t is `n`
unfoldable pub predecessors : (ℕ → ℕ → Float) → Float → ℕ → ℕ → List ℕ
predecessors cost penalty m n = (state_after cost penalty m n (n + 1 - m)).last

-- the cost by `cost` of the readings from `tau` up to `t`, over the `channels` channels of `run`, of `n` readings each
unfoldable pub price : CostFunction → List Float → ℕ → ℕ → ℕ → ℕ → Float
price cost run n channels tau t = cost_to cost run n tau t channels
