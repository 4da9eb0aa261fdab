-- Laws of the balls that a new candidate faces others with: the mean between two places by the sums that the area holds, and the ball from its parts. Assumes nothing.
use Prim.Native.Nat.{ℕ, ◌+◌, ◌-◌, ◌*◌, ◌≤◌, ◌<◌}
use mathlib.Core.Path.{◌≡◌, refl, ap}
use mathlib.Core.List.{List}
use native.Mathlib.Omega.{arith}
use borrow.Author.Tests.{eq-eqb, ne_eqb}
use lib.ListN.{get_or}
use lib.Ieee.{Float, nan}
use Rattle.floats.specs.Numbers.{◌+ᶠ◌, ◌-ᶠ◌, ◌/ᶠ◌, +0, of_whole}
use Rattle.costs.specs.Summed.{segment_at, area_cost}
use Rattle.costs.specs.declared.Segment.{Segment}
use Rattle.costs.specs.declared.CostFunction.TheVariants.{L2}
use Rattle.costs.proofs.SummedLaws.{held_segment, cost_of_run}
use Rattle.functional.specs.declared.Plan.{Plan}
use Rattle.search_rules.specs.declared.Facing.{Facing}
use Rattle.search_rules.specs.Functional.{price, centre_along, besides, slack_of, facing}
use Rattle.functional.specs.Inner.Held.{Sound, task}

pub centre_held : (q : Plan) (channel a b : ℕ) → Sound q → channel < q.channels → a < b → b ≤ q.n
    → (get_or q.sums.now (channel * (2 * (q.n + 1)) + b) nan -ᶠ get_or q.sums.now (channel * (2 * (q.n + 1)) + a) nan) /ᶠ of_whole (b - a) ≡ centre_along (task q) channel a b
unfolding centre_along segment_at
centre_held q channel a b s h l m = ap (λ (g : Segment). g.sum /ᶠ g.length) (held_segment a b (s.sums.channel channel h) (omega arith) m)

pub one_channel : (q : Plan) (v : Float) → q.channels ≡ 1 → +0 ≡ besides (task q) v
unfolding besides
one_channel q v e = rw (eq-eqb q.channels 1 e) refl

pub two_channels : (q : Plan) (u v : Float) → (q.channels ≡ 1 → ⊥) → u ≡ v → u ≡ besides (task q) v
unfolding besides
two_channels q u v e f = rw (ne_eqb q.channels 1 e) f

-- the cost over the channels by the sums that the area holds
pub price_held : (q : Plan) (a b : ℕ) → Sound q → a < b → b ≤ q.n → area_cost L2 q.sums.now q.n q.channels a b ≡ price (task q) a b
unfolding price
price_held q a b s h l = cost_of_run L2 a b s.sums h l s.short (omega (arith, s.two)) s.room

pub facing_from : (q : Plan) (f : List Float) (a b : ℕ) (cost len slack cx cy : Float) → cost ≡ price (task q) a b → len ≡ of_whole (b - a) → slack ≡ slack_of (get_or f b nan) (get_or f a nan) cost q.penalty len
    → cx ≡ centre_along (task q) 0 a b → cy ≡ besides (task q) (centre_along (task q) 1 a b)
    → ◌≡◌ {A = Facing} (record { cx = cx; cy = cy; outer = (get_or f b nan -ᶠ get_or f a nan -ᶠ cost) /ᶠ len +ᶠ slack; inner = (get_or f b nan -ᶠ get_or f a nan -ᶠ cost) /ᶠ len -ᶠ slack }) (facing (task q) f a b)
unfolding facing
facing_from q f a b cost len slack cx cy e₁ e₂ e₃ e₄ e₅ = rw (e₃, e₄, e₅, e₁, e₂) refl
