-- `cuts_output::text::Text::put_spaced` meets its contract: the space, then the number. Assumes nothing.
use Rattle.std.proofs.Common.{arith}
use Rattle.cuts_output.proofs.LineLaws.{spaced_one, decimal_fits, decimal_short}
use Rattle.cuts_output.proofs.PutLaws.{put_then, put_as, put_long}
use Rattle.cuts_output.proofs.text.Text.put_spaced.Goals as goal

pub put_decimal-requires : goal.put_decimal-requires
put_decimal-requires c = decimal_fits _ c.args.n (omega (arith, c.ranges.n)) (omega (arith, c.requires, c.put_byte.ensures.written.place, put_long c.put_byte.ensures))

pub returns-clause-text : goal.returns-clause-text
returns-clause-text c = put_as (spaced_one _) (put_then c.put_byte.ensures c.put_decimal.ensures)

pub returns-clause-short : goal.returns-clause-short
returns-clause-short c = omega (arith, decimal_short c.args.n (omega (arith, c.ranges.n)), c.put_byte.ensures.written.place, c.put_decimal.ensures.written.place)
