-- `c_charts::columns::walk` meets its contract: after `i` readings the columns have the first `i` records. Assumes nothing.
use mathlib.Core.Path.{◌≡◌, ap, ◌∙◌}
use Prim.Native.Nat.{ℕ}
use native.Mathlib.Omega.{arith}
use Rattle.std.specs.Prelude.{Result}
use Rattle.refusals.specs.declared.Refusal.{Refusal}
use Rattle.refusals.specs.Said.{said}
use Rattle.charts.specs.Settings.{setting_tests}
use Rattle.c_answers.specs.Told.{counted_of}
use Rattle.c_charts.proofs.WalkLaws.{begun, one_put, room_left}
use Rattle.c_charts.proofs.columns.walk.Goals as goal

pub put-requires : goal.put-requires
put-requires g c =
    let m = g.C.Chart in let w = g.W.Columns in
    let b = begun (setting_tests (m.in_range c.args.chart)) _ _ _ _ _ c.room.ensures c.judge-answer.ensures c.unwrap_or-n.ensures in
    room_left m.shown m.start m.next w.put _ _ w.room g.met.W.Columns.keeps _ _ _ _ c.loop-i.invariant (omega (arith, c.loop-i-test.true, b.fits.records))

pub loop-i-preserved : goal.loop-i-preserved
loop-i-preserved g c =
    let m = g.C.Chart in
    let b = begun (setting_tests (m.in_range c.args.chart)) _ _ _ _ _ c.room.ensures c.judge-answer.ensures c.unwrap_or-n.ensures in
    rw (c.put.ensures, c.shown.ensures) (one_put m.shown m.start m.next g.W.Columns.put _ _ _ _ _ _ _ c.loop-i.invariant (omega (arith, c.loop-i-test.true, b.fits.readings)) c.following-state.ensures)

pub returns : goal.returns
returns g c =
    let b = begun (setting_tests (g.C.Chart.in_range c.args.chart)) _ _ _ _ _ c.room.ensures c.judge-answer.ensures c.unwrap_or-n.ensures in
    let all : c.loop-i.i ≡ c.unwrap_or-n.result = omega (arith, c.loop-i-test.false, c.loop-i.auto.i-end) in
    record { told = c.answered.ensures ∙ ap (λ (r : Result ℕ Refusal). counted_of (said r)) b.answered; written = rw (all, b.counted) at c.loop-i.invariant.written }
