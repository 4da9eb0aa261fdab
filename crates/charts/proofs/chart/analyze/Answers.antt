-- `charts::chart::analyze` meets its contract: what the loop leaves is the run's records. Assumes nothing.
use mathlib.Core.Path.{refl, ◌∙◌}
use Prim.Native.Nat.{◌<◌}
use native.Mathlib.Omega.{arith}
use borrow.Author.Rules.{rules}
use lib.ListN.{length}
use Rattle.charts.specs.Runs.{records}
use Rattle.charts.specs.Settings.{setting_tests}
use Rattle.charts.proofs.Loops.{none_recorded, one_recorded, all_recorded, admitted_sizes, analyzed_ok, analyzed_err}
use Rattle.charts.proofs.Runs.{following_is, written_lent}
use Rattle.charts.proofs.chart.analyze.Goals as goal

pub returns-in_err-n : goal.returns-in_err-n
returns-in_err-n g c =
    let a = c.args in let m = g.C.Chart in
    let left = analyzed_err (setting_tests (m.in_range a.chart)) (length a.«data».now) (records m.shown m.start m.next a.chart a.«data».now) a.records.now c.in_err-n.field-0.0 c.in_err-n.ensures refl in
    search rules

pub loop-i-init : goal.loop-i-init
loop-i-init g c = let m = g.C.Chart in rw c.start-state.ensures (none_recorded m.shown m.start m.next _ _ _ _)

pub offset_bounds-records-i : goal.offset_bounds-records-i
offset_bounds-records-i g c =
    let sizes = admitted_sizes _ _ _ _ (c.in_ok-n.ensures) in
    let below : c.loop-i.i < length c.loop-i.records = omega (arith, c.loop-i-test.true, sizes.0, sizes.1, c.loop-i.auto.records) in
    search rules

pub bounds-records-i : goal.bounds-records-i
bounds-records-i g c =
    let sizes = admitted_sizes _ _ _ _ (c.in_ok-n.ensures) in
    omega (arith, c.loop-i-test.true, sizes.0, sizes.1, c.loop-i.auto.records)

pub loop-i-preserved : goal.loop-i-preserved
loop-i-preserved g c =
    let m = g.C.Chart in
    let sizes = admitted_sizes _ _ _ _ (c.in_ok-n.ensures) in
    let a = c.args in
    let reads : c.loop-i.i < length a.«data».now = omega (arith, c.loop-i-test.true, sizes.0) in
    let steps = following_is m.next a.chart a.«data».now c.loop-i.i c.loop-i.state reads in
    rw c.shown.ensures (one_recorded m.shown m.start m.next _ _ _ _ _ _ _ c.loop-i.invariant _ c.loop-i-test.true (rw steps at c.following-state.ensures))

pub returns : goal.returns
returns g c =
    let a = c.args in let m = g.C.Chart in
    let sizes = admitted_sizes _ _ _ _ (c.in_ok-n.ensures) in
    let all = all_recorded m.shown m.start m.next _ _ _ _ _ _ _ c.loop-i.invariant (omega (arith, c.loop-i-test.false)) in
    let left = written_lent m.shown m.start m.next a.chart a.«data».now c.in_ok-n.n a.records.now (omega (arith, sizes.0, sizes.1)) in
    analyzed_ok (setting_tests (m.in_range a.chart)) (length a.«data».now) (records m.shown m.start m.next a.chart a.«data».now) a.records.now c.in_ok-n.n _ (c.in_ok-n.ensures) (all ∙ left)
