-- `charts::chart::signal_points` meets its contract: what the loop leaves is the indices that signal in the run. Assumes nothing.
use Prim.Native.Nat.{◌<◌}
use native.Mathlib.Omega.{arith}
use borrow.Author.Rules.{rules}
use lib.ListN.{length}
use Rattle.charts.specs.Runs.{points}
use Rattle.charts.specs.Settings.{setting_tests}
use Rattle.charts.specs.Sides.{signals}
use Rattle.charts.proofs.Loops.{none_marked, one_more, all_marked, admitted_sizes, signalled_ok, signalled_err}
use Rattle.charts.proofs.Runs.{following_is}
use Rattle.charts.proofs.chart.signal_points.Goals as goal

pub returns-in_err-judge : goal.returns-in_err-judge
returns-in_err-judge g c =
    let a = c.args in let m = g.C.Chart in
    let left = signalled_err (setting_tests (m.in_range a.chart)) (length a.«data».now) (points m.shown m.start m.next a.chart a.«data».now (λ r. signals (m.side r)) (length a.«data».now)) a.points.now c.in_err-judge.field-0.0 c.in_err-judge.ensures in
    search rules

pub loop-i-init : goal.loop-i-init
loop-i-init g c = let m = g.C.Chart in rw c.start-state.ensures (none_marked m.shown m.start m.next _ _ _ _ _)

pub loop-i-preserved : goal.loop-i-preserved
loop-i-preserved g c =
    let m = g.C.Chart in
    let sizes = admitted_sizes _ _ _ _ c.in_ok-judge.ensures in
    let a = c.args in
    let reads : c.loop-i.i < length a.«data».now = c.loop-i-test.true in
    let steps = following_is m.next a.chart a.«data».now c.loop-i.i c.loop-i.state reads in
    one_more m.shown m.start m.next (λ r. signals (m.side r)) _ _ _ _ _ _ _ _ c.loop-i.invariant (omega (arith, sizes.0, sizes.1)) _ _ _
    c.loop-i-test.true (rw steps at c.following-state.ensures) (rw (c.signals.ensures, c.side.ensures, c.shown.ensures) at c.note-count.ensures)

pub returns : goal.returns
returns g c =
    let a = c.args in let m = g.C.Chart in
    let sizes = admitted_sizes _ _ _ _ c.in_ok-judge.ensures in
    let all = all_marked m.shown m.start m.next (λ r. signals (m.side r)) _ _ _ _ _ _ _ _ c.loop-i.invariant (omega (arith, sizes.0, sizes.1)) (omega (arith, c.loop-i-test.false)) in
    signalled_ok (setting_tests (m.in_range a.chart)) (length a.«data».now) (points m.shown m.start m.next a.chart a.«data».now (λ r. signals (m.side r)) (length a.«data».now)) a.points.now _ _ _ c.in_ok-judge.ensures
    all
