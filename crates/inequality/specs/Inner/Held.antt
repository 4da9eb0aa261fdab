-- How the lent areas hold a state of the recurrence, for the private functions. Definitions only.
use Rattle.std.specs.Prelude.{ℕ, ◌+◌, ◌-◌, ◌*◌, ◌/◌, ◌%◌, ◌≤◌, ◌<◌, ◌≡◌, cond, List, eqb, length, get_or, Float}
use Rattle.std.specs.Float.{nan}
use Rattle.refusals.specs.Limits.{max_channels, max_readings}
use Rattle.areas.specs.Parts.{part}
use Rattle.readings.specs.Channels.{channel_of}
use Rattle.sums.specs.Sums.{mean_of, centred_to, squares_to}
use Rattle.search_rules.specs.Inequality.{State, state_after, price}
use Rattle.inequality.specs.declared.Plan.{Plan}

-- areas of `lf` floats and `li` indices have room for what the plan `q` puts there: parts of n + 1 floats, two a channel, then F's, then the weights; the predecessors, then the candidates
pub record Room (q : Plan) (lf li : ℕ) : Type 0 where
  pub short : q.n ≤ max_readings
  pub few : q.channels ≤ max_channels
  pub some : 1 ≤ q.m
  pub ripe : q.m ≤ q.n
  pub f : q.f ≡ 2 * q.channels * (q.n + 1)
  pub p : q.p ≡ q.f + (q.n + 1)
  pub floats : q.p + (q.n + 1) ≤ lf
  pub last : q.c ≡ q.n + 1
  pub c : q.c + (q.n + 1) ≤ li

-- the cost of the plan `q` over `run`, from one index to another
abbrev pub planned : List Float → Plan → ℕ → ℕ → Float
planned run q = price q.cost run q.n q.channels

-- what the part `r` of the floats holds for the index `i`: the part 2c is of channel c's sums, the part 2c + 1 of its squares'
unfoldable pub run_of : List Float → ℕ → ℕ → ℕ → Float
run_of run n r i =
    let xs = channel_of run n (r / 2) in
    cond (eqb (r % 2) 0) (centred_to xs (mean_of xs) i) (squares_to xs (mean_of xs) i)

-- each of `candidates` is below `t`
pub record AllBelow (t : ℕ) (candidates : List ℕ) : Type 0 where
  pub below : (j : ℕ) → j < length candidates → get_or candidates j 0 < t

-- `candidates` rise strictly
pub record Rising (candidates : List ℕ) : Type 0 where
  pub rising : (i j : ℕ) → i < j → j < length candidates → get_or candidates i 0 < get_or candidates j 0

-- the parts of the floats `xs`: at the front the sums, and F by `f`, of the candidates in their order, and from `t` on the sums by index
pub record Runs (run : List Float) (q : Plan) (xs : List Float) (candidates : List ℕ) (f : List Float) (t : ℕ) : Type 0 where
  pub front : (r j : ℕ) → r < 2 * q.channels → j < length candidates → get_or xs (r * (q.n + 1) + j) nan ≡ run_of run q.n r (get_or candidates j 0)
  pub left : (r i : ℕ) → r < 2 * q.channels → t ≤ i → i ≤ q.n → get_or xs (r * (q.n + 1) + i) nan ≡ run_of run q.n r i
  pub least : (j : ℕ) → j < length candidates → get_or xs (q.f + j) nan ≡ get_or f (get_or candidates j 0) nan

-- the areas `xs` and `ix` hold the state `s` of the recurrence, with `count` candidates, as the step at `t` wants it
pub record Shown (run : List Float) (q : Plan) (xs : List Float) (ix : List ℕ) (count t : ℕ) (s : State) : Type 0 where
  pub room : Room q (length xs) (length ix)
  pub below : AllBelow t s.candidates
  pub rising : Rising s.candidates
  pub long : length s.f ≡ q.n + 1
  pub from : q.m ≤ t
  pub few : count + q.m ≤ t + 1
  pub candidates : part ix q.c count ≡ s.candidates
  pub last : part ix 0 (q.n + 1) ≡ s.last
  pub runs : Runs run q xs s.candidates s.f t

-- the areas hold the state after the steps before `t`
abbrev pub Holds : List Float → Plan → List Float → List ℕ → ℕ → ℕ → Type 0
Holds run q xs ix count t = Shown run q xs ix count t (state_after (planned run q) q.penalty q.m q.n (t - q.m))
