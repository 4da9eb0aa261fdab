-- The contract of `lose_inside` leaves one outcome: one area and one count. That of `has_room` is an equation of the result. Assumes nothing.
use Prim.Native.Nat.{ℕ}
use mathlib.Core.Path.{◌≡◌, sym, ◌∙◌}
use mathlib.Core.List.{List}
use lib.Ieee.{Float}
use Rattle.candidate_balls.specs.declared.Ball.{Ball}
use Rattle.candidate_balls.specs.Losing.{Lost}

pub lost_once : {channels : ℕ} {before y z : List Float} {place count : ℕ} {b : Ball} {r q : ℕ} → Lost channels before y place count b r → Lost channels before z place count b q
    → (y ≡ z) × (r ≡ q)
lost_once s t = (s.left ∙ sym t.left, s.said ∙ sym t.said)
