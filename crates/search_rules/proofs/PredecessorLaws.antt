-- Laws of sound predecessors: the first list is sound, one more keeps it so, so a search fills it soundly. Assumes nothing.
use Prim.Native.Nat.{ℕ, zero, suc, ◌+◌, ◌-◌, ◌≤◌, ◌<◌}
use mathlib.Core.Path.{◌≡◌, refl, ◌∙◌}
use mathlib.Core.List.{List}
use mathlib.Core.Logic.{◌⊎◌, inl, inr}
use native.Mathlib.Omega.{arith}
use native.Mathlib.Decide.{ℕ_discrete}
use lib.Seq.{get_or-set_other, get_or-set_same}
use lib.ListN.{length, get_or, set, replicate, length-set, length-replicate}
use Rattle.search_rules.specs.Predecessors.{Placed, start, later, Sound}

zeros_at : (n i : ℕ) → get_or {A = ℕ} (replicate n 0) i 0 ≡ 0
zeros_at zero i = refl
zeros_at (suc n) zero = refl
zeros_at (suc n) (suc i) = zeros_at n i

pub sound_zeros : (m n : ℕ) → Sound m (replicate n 0)
sound_zeros m n = record { placed = λ t. start (zeros_at n t) }

pub sound_set : {m : ℕ} {last : List ℕ} (t x : ℕ) → Sound m last → Placed m t x → t < length last → Sound m (set last t x)
sound_set {m} {last} t x s p h = record { placed = λ i. go i (ℕ_discrete i t) }
  where
    go : (i : ℕ) → Dec (i ≡ t) → Placed m i (get_or (set last t x) i 0)
    go i (yes q) = rw (q, get_or-set_same last t x 0 h) p
    go i (no f) = rw (get_or-set_other last t i x 0 f) (s.placed i)

-- ---- a search fills the list from the index m up, each time with a predecessor that may stand there
pub record Filled (m n : ℕ) (last : List ℕ) : Type 0 where
  pub sound : Sound m last
  pub long : length last ≡ n + 1

pub filled_after : (m n : ℕ) (last : ℕ → List ℕ) (chosen : ℕ → ℕ) → last 0 ≡ replicate (n + 1) 0 → ((d : ℕ) → last (suc d) ≡ set (last d) (m + d) (chosen d)) → ((d : ℕ) → Placed m (m + d) (chosen d))
    → (d : ℕ) → m + d ≤ n + 1 → Filled m n (last d)
filled_after m n last chosen first next placed zero h = rw first (record { sound = sound_zeros m (n + 1); long = length-replicate (n + 1) 0 })
filled_after m n last chosen first next placed (suc d) h = rw (next d) (go (filled_after m n last chosen first next placed d (omega arith)))
  where
    go : Filled m n (last d) → Filled m n (set (last d) (m + d) (chosen d))
    go r = record { sound = sound_set (m + d) (chosen d) r.sound (placed d) (omega (arith, r.long)); long = length-set (last d) (m + d) (chosen d) ∙ r.long }

-- ---- one predecessor
pub placed_next : {m t tau : ℕ} → Placed m t tau → Placed m (t + 1) tau
placed_next (start e) = start e
placed_next (later p q) = later p (omega arith)

-- the candidate `x` is 0 or joined at `m` or later; once it is `m` old it may be a predecessor
unfoldable pub Joined : ℕ → ℕ → Type 0
Joined m x = (x ≡ 0) ⊎ (m ≤ x)

pub old_placed : (m t x : ℕ) → 0 < m → Joined m x → m ≤ t - x → Placed m t x
unfolding Joined
old_placed m t x h (inl e) l = start e
old_placed m t x h (inr g) l = later g (omega arith)
