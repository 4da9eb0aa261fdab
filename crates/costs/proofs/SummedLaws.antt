-- Laws of the costs that an area's sums give: one channel more, what fits does not wrap, and where the area holds the sums of a run they are the run's costs. Assumes nothing.
use Rattle.std.proofs.Common.{◌≡◌, ℕ, zero, suc, ◌+◌, ◌*◌, ◌<◌, ◌≤◌, Bool, true, false, ◌&&◌, ltb, leb, List, length, get_or, refl, ap, ◌∙◌, ap₂, le_of_lt, add-one, arith, ltb-true, lt-ltb, le-leb, leb-true}
use mathlib.Core.Bool.{false≢true}
use lib.Ieee.{Float, nan}
use Rattle.floats.specs.Numbers.{◌+ᶠ◌}
use Rattle.areas.proofs.PartLaws.{part_at, tab_at}
use Rattle.sums.specs.Sums.{mean_of, centred_to, squares_to, Held}
use Rattle.sums.specs.EachChannel.{Sums}
use Rattle.costs.specs.Costs.{segment_of, segment_about, cost_of, cost_to}
use Rattle.costs.specs.Summed.{segment_at, area_cost_to, segment_fits, area_cost}
use Rattle.costs.specs.declared.CostFunction.{CostFunction}
use Rattle.costs.specs.declared.Segment.{Segment}

-- the cost of one channel more, the channel `c`, whose sums stand at `place`
pub channel_added : (cost : CostFunction) (area : List Float) (n a b c place : ℕ) (s x : Float) (segment : Segment) → s ≡ area_cost_to cost area n a b c → place ≡ c * (2 * (n + 1))
    → segment ≡ segment_at area n place a b → x ≡ cost_of cost segment → s +ᶠ x ≡ area_cost_to cost area n a b (c + 1)
unfolding area_cost_to
channel_added cost area n a b c place s x segment p e f q = rw (add-one, p, q, f, e)

-- ---- what fits
pub record Fitted (size n k a b : ℕ) : Type 0 where
  pub some : a < b
  pub within : b ≤ n
  pub short : n ≤ 4096
  pub few : k ≤ 8
  pub room : k * (2 * (n + 1)) ≤ size

pub fitted : (size n k a b : ℕ) → segment_fits size n k a b ≡ true → Fitted size n k a b
unfolding segment_fits
fitted size n k a b e = go (ltb a b) (leb b n) (leb n 4096) (leb k 8) (leb (k * (2 * (n + 1))) size) refl refl refl refl refl e
  where
    go : (t u v w x : Bool) → ltb a b ≡ t → leb b n ≡ u → leb n 4096 ≡ v → leb k 8 ≡ w → leb (k * (2 * (n + 1))) size ≡ x → (t && (u && (v && (w && x)))) ≡ true
        → Fitted size n k a b
    go true true true true true p q r s o e =
        record { some = ltb-true _ _ p; within = leb-true _ _ q; short = leb-true _ _ r; few = leb-true _ _ s; room = leb-true _ _ o }
    go true true true true false p q r s o e = absurd (false≢true e)
    go true true true false x p q r s o e = absurd (false≢true e)
    go true true false w x p q r s o e = absurd (false≢true e)
    go true false v w x p q r s o e = absurd (false≢true e)
    go false u v w x p q r s o e = absurd (false≢true e)

-- ---- where the area holds the sums of a run
pub held_segment : {xs : List Float} {n : ℕ} {area : List Float} {place : ℕ} (a b : ℕ) → Held xs (mean_of xs) n area place → a ≤ n → b ≤ n → segment_at area n place a b ≡ segment_of xs a b
unfolding segment_at segment_of segment_about
held_segment {xs} {n} {area} {place} a b r h l =
    let m = mean_of xs in
    let sum : (i : ℕ) → i ≤ n → get_or area (place + i) nan ≡ centred_to xs m i = λ i g. part_at area place (n + 1) i nan (omega arith) ∙ ap (λ (q : List Float). get_or q i nan) r.sums ∙ tab_at (centred_to xs m) (n + 1) i nan (omega arith) in
    let squares : (i : ℕ) → i ≤ n → get_or area (place + (n + 1) + i) nan ≡ squares_to xs m i = λ i g. part_at area (place + (n + 1)) (n + 1) i nan (omega arith) ∙ ap (λ (q : List Float). get_or q i nan) r.squares ∙ tab_at (squares_to xs m) (n + 1) i nan (omega arith) in
    rw (sum b l, sum a h, squares b l, squares a h)

costs_agree : (cost : CostFunction) {run : List Float} {n k : ℕ} {area : List Float} (a b c : ℕ) → Sums run n k area → a ≤ n → b ≤ n → c ≤ k
    → area_cost_to cost area n a b c ≡ cost_to cost run n a b c
unfolding area_cost_to cost_to
costs_agree cost a b zero s h l g = refl
costs_agree cost a b (suc c) s h l g = ap₂ ◌+ᶠ◌ (costs_agree cost a b c s h l (le_of_lt g)) (ap (cost_of cost) (held_segment a b (s.channel c g) h l))

-- where `area` holds the sums of `run`, the answer of `cost_of` is the run's cost
pub cost_of_run : (cost : CostFunction) {run : List Float} {n k : ℕ} {area : List Float} (a b : ℕ) → Sums run n k area → a < b → b ≤ n → n ≤ 4096 → k ≤ 8
    → k * (2 * (n + 1)) ≤ length area → area_cost cost area n k a b ≡ cost_to cost run n a b k
unfolding area_cost segment_fits
cost_of_run cost {n = n} {k = k} {area = area} a b s h l m f r =
    rw (lt-ltb a b h, le-leb b n l, le-leb n 4096 m, le-leb k 8 f, le-leb _ (length area) r) (costs_agree cost a b k s (omega arith) l (omega arith))
