-- `inequality::keeping::retain_runs` meets its contract. The loop's invariant: the first `run` parts are done. Assumes nothing.
use mathlib.Core.Path.{◌≡◌, refl, sym, subst, ◌∙◌}
use mathlib.Core.List.{◌++◌}
use Prim.Native.Nat.{ℕ, ◌+◌, ◌-◌, ◌*◌}
use native.Mathlib.Omega.{arith}
use native.Mathlib.Nat.{le_antisymm}
use lib.ListN.{length, take, drop}
use lib.Seq.{length-take-le}
use lib.Ieee.{nan}
use Rattle.inequality.specs.Inner.Staying.{RetainedRuns}
use Rattle.inequality.proofs.KeepingLaws.{run_room, runs_none, runs_slice, slice_length, staying_front, leaving_front}
use Rattle.inequality.proofs.keeping.retain_runs.Goals as goal

pub loop-run-init : goal.loop-run-init
loop-run-init c = runs_none _ _ _ _

pub retain_run-requires : goal.retain_run-requires
retain_run-requires c =
    let a = c.args in
    let p = c.requires in
    let l = c.loop-run in
    let h = run_room a.plan _ _ l.run p.0 c.loop-run-test.true in
    let base = l.run * (a.plan.n + 1) in
    let many : length (take (base + a.count - base) (drop base l.parts)) ≡ a.count = slice_length l.parts base a.count (omega (arith, l.auto.parts)) in
    let some : length (take a.count a.weights.now) ≡ a.count = length-take-le a.count a.weights.now (omega (arith, p.0.floats)) in
    (p.2, omega (arith, many), some ∙ sym many, staying_front a.count refl (omega arith) p.5, leaving_front a.count refl p.3 p.6)

pub loop-run-preserved : goal.loop-run-preserved
loop-run-preserved c =
    let a = c.args in
    let p = c.requires in
    let l = c.loop-run in
    let h = run_room a.plan _ _ l.run p.0 c.loop-run-test.true in
    let base = l.run * (a.plan.n + 1) in
    let many : length (take (base + a.count - base) (drop base l.parts)) ≡ a.count = slice_length l.parts base a.count (omega (arith, l.auto.parts)) in
    runs_slice a.bound a.plan _ l.parts a.weights.now c.retain_run.new.values a.count l.run base (base + a.count) _ _ l.invariant (omega (arith, l.auto.parts)) (c.retain_run.ensures nan) refl refl many p.4 (omega arith) (omega (arith, p.0.floats))

pub returns : goal.returns
returns c =
    let a = c.args in
    let l = c.loop-run in
    subst (λ (r : ℕ). RetainedRuns a.bound a.plan (a.parts.now ++ a.weights.now) (l.parts ++ a.weights.now) a.count r) (le_antisymm (omega arith) (omega arith)) l.invariant
