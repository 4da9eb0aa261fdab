-- The candidates that stay, and what the parts of the floats hold of them, for the private functions. Definitions only.
use Rattle.std.specs.Prelude.{ℕ, zero, suc, ◌+◌, ◌*◌, ◌≤◌, ◌<◌, ◌≡◌, ◌≢◌, Bool, true, false, cond, List, [], ◌∷◌, ◌++◌, get_or, Float}
use Rattle.std.specs.Float.{nan}
use Rattle.floats.specs.Numbers.{◌<ᶠ◌}
use Rattle.areas.specs.Parts.{part, Frame}
use Rattle.inequality.specs.declared.Plan.{Plan}

-- the candidate `j` stays: its weight, of those in `xs` at `p`, is below `bound`
abbrev pub stays : Float → List Float → ℕ → ℕ → Bool
stays bound xs p j = get_or xs (p + j) nan <ᶠ bound

-- the first `j` candidates all stay
pub record Staying (bound : Float) (xs : List Float) (p j : ℕ) : Type 0 where
  pub stay : (i : ℕ) → i < j → stays bound xs p i ≡ true

-- none of the candidates from `from` up to `to` stays
pub record Leaving (bound : Float) (xs : List Float) (p from to : ℕ) : Type 0 where
  pub leave : (i : ℕ) → from ≤ i → i < to → stays bound xs p i ≡ false

-- how many of the first `j` candidates stay
unfoldable pub stay_count : Float → List Float → ℕ → ℕ → ℕ
stay_count bound xs p zero = 0
stay_count bound xs p (suc j) = cond (stays bound xs p j) (suc (stay_count bound xs p j)) (stay_count bound xs p j)

-- of the first `j` values in `values` at `b`, those of the candidates that stay; `d` stands for a value past the list's end
unfoldable pub kept_by : {A : Type 0} → Float → List Float → ℕ → A → List A → ℕ → ℕ → List A
kept_by bound xs p d values b zero = []
kept_by bound xs p d values b (suc j) = cond (stays bound xs p j) (kept_by bound xs p d values b j ++ (get_or values (b + j) d ∷ [])) (kept_by bound xs p d values b j)

-- of `count` values in `values` at `b` the first `i` have been looked at, and those of the candidates that stay, `kept` of them, moved to the front, in order
pub record Retained {A : Type 0} (bound : Float) (xs : List Float) (p : ℕ) (d : A) (values values' : List A) (b count i kept : ℕ) : Type 0 where
  pub many : kept ≡ stay_count bound xs p i
  pub few : kept ≤ i
  pub front : part values' b kept ≡ kept_by bound xs p d values b i
  pub rest : (j : ℕ) → i ≤ j → j < count → get_or values' (b + j) d ≡ get_or values (b + j) d
  pub frame : Frame values values' b count

-- in each of the first `runs` parts of the floats what belongs to the candidates that stay has moved to the front, and what is behind the `count` candidates is as it was
pub record RetainedRuns (bound : Float) (q : Plan) (xs xs' : List Float) (count runs : ℕ) : Type 0 where
  pub front : (r : ℕ) → r < runs → part xs' (r * (q.n + 1)) (stay_count bound xs q.p count) ≡ kept_by bound xs q.p nan xs (r * (q.n + 1)) count
  pub rest : (r i : ℕ) → r < runs → count ≤ i → i ≤ q.n → get_or xs' (r * (q.n + 1) + i) nan ≡ get_or xs (r * (q.n + 1) + i) nan
  pub frame : Frame xs xs' 0 (runs * (q.n + 1))

-- in each of the first `runs` parts what belongs to `t` stands at `place` too, and the rest is as it was
pub record Joined (q : Plan) (xs xs' : List Float) (place t runs : ℕ) : Type 0 where
  pub here : (r : ℕ) → r < runs → get_or xs' (r * (q.n + 1) + place) nan ≡ get_or xs (r * (q.n + 1) + t) nan
  pub rest : (r i : ℕ) → r < runs → i ≤ q.n → i ≢ place → get_or xs' (r * (q.n + 1) + i) nan ≡ get_or xs (r * (q.n + 1) + i) nan
  pub frame : Frame xs xs' 0 (runs * (q.n + 1))
