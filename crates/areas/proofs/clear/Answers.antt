-- `areas::clear` meets its contract: the part is cleared index by index, up to `stop_of`. Assumes nothing.
use Rattle.std.proofs.Common.{rules, arith, ◌≤◌, ◌<◌, length}
use native.Mathlib.Nat.{le_antisymm}
use Rattle.areas.proofs.ClearedLaws.{cleared_at, cleared_more, cleared_all, stop_from, stop_in}
use Rattle.areas.proofs.clear.Goals as goal

pub loop-i-init : goal.loop-i-init
loop-i-init g c = cleared_at _ _ _

pub bounds-area-i : goal.bounds-area-i
bounds-area-i g c =
    let a = c.args in
    rw c.loop-i.auto.area (stop_in a.place a.size (length a.area.now) c.loop-i.i (omega arith) (rw c.stop-end.ensures at c.loop-i-test.true))

pub offset_bounds-area-i : goal.offset_bounds-area-i
offset_bounds-area-i g c =
    let a = c.args in
    let h : c.loop-i.i < length a.area.now = stop_in a.place a.size (length a.area.now) c.loop-i.i (omega arith) (rw c.stop-end.ensures at c.loop-i-test.true) in
    search rules

pub loop-i-preserved : goal.loop-i-preserved
loop-i-preserved g c = rw c.zero.ensures (cleared_more _ _ _ _ _ c.loop-i.invariant (omega arith) (bounds-area-i g c))

pub returns : goal.returns
returns g c =
    let a = c.args in
    let from : a.place ≤ c.stop-end.result = rw c.stop-end.ensures (stop_from a.place a.size (length a.area.now)) in
    cleared_all _ _ _ _ _ _ c.loop-i.invariant (le_antisymm (omega arith) (omega arith))
