-- `inequality::keeping::retain` meets its contract, whether a candidate goes or none. Assumes nothing.
use mathlib.Core.Path.{refl, sym, ◌∙◌}
use mathlib.Core.List.{◌++◌}
use Prim.Native.Nat.{◌*◌, ◌+◌}
use native.Mathlib.Omega.{arith}
use native.Mathlib.Nat.{le_antisymm}
use lib.ListN.{length-append}
use lib.Seq.{length-take-le}
use Rattle.inequality.proofs.KeepingLaws.{runs_end, runs_same, staying_all, staying_behind, retained_from, retained_first, staying_back, leaving_back, weight_front}
use Rattle.inequality.proofs.keeping.retain.Goals as goal

pub retain_runs-requires : goal.retain_runs-requires
retain_runs-requires c =
    let a = c.args in
    let room = c.requires.0 in
    let s = c.staying-from.ensures in
    let g = c.leaving-next.ensures in
    let many = length-take-le a.count a.weights.now (omega (arith, room.floats)) in
    (record { short = room.short; few = room.few; some = room.some; ripe = room.ripe; f = room.f; p = room.p; floats = room.floats; last = room.last; c = omega arith }, c.requires.1, g.0, omega (arith, g.1, many), c.requires.2, staying_back a.count refl (omega (arith, s.0, many)) s.1, leaving_back a.count refl (omega (arith, g.1, many)) g.2)

pub retain_run-requires : goal.retain_run-requires
retain_run-requires c =
    let a = c.args in
    let room = c.requires.0 in
    let s = c.staying-from.ensures in
    let g = c.leaving-next.ensures in
    let many = length-take-le a.count a.candidates.now (omega (arith, room.c)) in
    let some = length-take-le a.count a.weights.now (omega (arith, room.floats)) in
    (g.0, omega (arith, many, some, g.1), some ∙ sym many, s.1, g.2)

pub returns-then-from-count : goal.returns-then-from-count
returns-then-from-count c =
    let a = c.args in
    let room = c.requires.0 in
    let many = length-take-le a.count a.candidates.now (omega (arith, room.c)) in
    (c.retain_runs.ensures, retained_first a.bound _ a.weights.now 0 0 a.candidates.now c.retain_run.new.values a.count c.retain_run.result _ many (omega (arith, room.c)) (λ i k. weight_front a.weights.now 0 a.count i k) (c.retain_run.ensures 0))

pub returns : goal.returns
returns c =
    let a = c.args in
    let room = c.requires.0 in
    let s = c.staying-from.ensures in
    let many = length-take-le a.count a.weights.now (omega (arith, room.floats)) in
    let all = staying_all (le_antisymm (omega (arith, many, s.0)) c.if-from-count.false) (staying_back a.count refl (omega (arith, many, s.0)) s.1) in
    (runs_same a.bound a.plan (a.parts.now ++ a.weights.now) a.count (2 * a.plan.channels + 1) (staying_behind a.parts.now c.requires.1 all) c.requires.2 (omega (arith, runs_end a.plan _ _ room, length-append a.parts.now a.weights.now)), retained_from _ _ _ 0 _ _ _ _ all (omega arith) (omega (arith, room.c)))
