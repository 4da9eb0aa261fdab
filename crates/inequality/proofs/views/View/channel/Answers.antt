-- `inequality::views::View::channel` meets its contract. Assumes nothing.
use mathlib.Core.Path.{refl}
use Prim.Native.Nat.{◌+◌, ◌-◌, ◌*◌, ◌<◌}
use native.Mathlib.Omega.{arith}
use lib.ListN.{length}
use lib.Ieee.{nan}
use Rattle.inequality.specs.Inner.Weights.{segment_at, segment_by}
use Rattle.inequality.proofs.ViewLaws.{between_at}
use Rattle.inequality.proofs.views.View.channel.Goals as goal

pub returns-clause-rows : goal.returns-clause-rows
unfolding segment_at segment_by
returns-clause-rows c j h = let a = c.args in let first = 2 * a.c * a.self.w in let next = first + a.self.w in let n = length a.self.candidates.now in
    let k : j < first + n - first = omega arith in let l : j < next + n - next = omega arith in
    rw (between_at a.self.parts.now first (first + n) j nan k, between_at a.self.parts.now next (next + n) j nan l) refl
