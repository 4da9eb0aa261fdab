-- `cuts_output::text::Text::put_line` meets its contract: the number, then the line's end. Assumes nothing.
use Rattle.std.proofs.Common.{arith}
use Rattle.cuts_output.proofs.LineLaws.{lines_one, decimal_fits, decimal_short}
use Rattle.cuts_output.proofs.PutLaws.{put_then, put_as, put_long}
use Rattle.cuts_output.proofs.text.Text.put_line.Goals as goal

pub put_decimal-requires : goal.put_decimal-requires
put_decimal-requires c = decimal_fits _ c.args.n (omega (arith, c.ranges.n)) (omega (arith, c.requires))

pub put_byte-requires : goal.put_byte-requires
put_byte-requires c = omega (arith, c.requires, decimal_short c.args.n (omega (arith, c.ranges.n)), c.put_decimal.ensures.written.place, put_long c.put_decimal.ensures)

pub returns-clause-text : goal.returns-clause-text
returns-clause-text c = put_as (lines_one _) (put_then c.put_decimal.ensures c.put_byte.ensures)

pub returns-clause-short : goal.returns-clause-short
returns-clause-short c = omega (arith, decimal_short c.args.n (omega (arith, c.ranges.n)), c.put_decimal.ensures.written.place, c.put_byte.ensures.written.place)
