-- `inequality::views::Channel::rows` meets its contract. Assumes nothing.
use mathlib.Core.Path.{refl}
use Prim.Native.Nat.{◌+◌, ◌-◌, ◌<◌}
use native.Mathlib.Omega.{arith}
use lib.Ieee.{nan}
use Rattle.inequality.specs.Inner.Weights.{segment_at}
use Rattle.inequality.proofs.ViewLaws.{between_at}
use Rattle.inequality.proofs.views.Channel.rows.Goals as goal

pub returns-clause-rows : goal.returns-clause-rows
unfolding segment_at
returns-clause-rows c j h = let a = c.args in let end = a.first + a.size in let k : j < end - a.first = omega arith in
    rw (between_at a.self.candidates.now a.first end j 0 k, between_at a.self.sums.now a.first end j nan k, between_at a.self.squares.now a.first end j nan k) refl
