-- `cuts_output::text::Text::put_lines` meets its contract. The loop's invariant: the lines of the first numbers are written. Assumes nothing.
use Rattle.std.proofs.Common.{sym, arith}
use Rattle.cuts_output.specs.Lines.{lines}
use Rattle.cuts_output.proofs.LineLaws.{lines_more}
use Rattle.cuts_output.proofs.PutLaws.{put_none, put_then, put_as, put_long}
use Rattle.cuts_output.proofs.text.Text.put_lines.Goals as goal

pub loop-cut-init : goal.loop-cut-init
unfolding lines
loop-cut-init c = (omega arith, put_none _)

pub put_line-requires : goal.put_line-requires
put_line-requires c = let l = c.loop-cut in omega (arith, c.requires, l.invariant.0, put_long l.invariant.1, c.loop-cut-test)

pub loop-cut-preserved : goal.loop-cut-preserved
loop-cut-preserved c =
    let l = c.loop-cut in
    (omega (arith, l.invariant.0, c.put_line.ensures.short), put_as (sym (lines_more c.args.cuts.now l.cut-index (omega arith))) (put_then l.invariant.1 c.put_line.ensures.text))
