-- `cuts_output::text::Text::put_decimal` meets its contract: it calls itself with a tenth of `n`, which is less than `n`. Assumes nothing.
use Rattle.std.proofs.Common.{arith}
use Rattle.cuts_output.proofs.LineLaws.{digits_fit}
use Rattle.cuts_output.proofs.PutLaws.{put_then, put_as, put_front_less, put_front_more, decimal_front, last_fits}
use Rattle.cuts_output.proofs.text.Text.+put_decimal.Goals as goal
use Rattle.cuts_output.proofs.text.Text.+put_decimal.Goals.{then-n-ge10, else-n-ge10}

pub put_decimal-requires : goal.put_decimal-requires
put_decimal-requires t c = (omega (arith, c.if-n-ge10.true, c.decreases), digits_fit _ _ c.if-n-ge10.true c.requires)

pub put_byte-requires : goal.put_byte-requires
put_byte-requires t c = last_fits c.args.n {a = c.args.self.now} {b = c.if-n-ge10.self} c.requires (elim c.if-n-ge10.branch [ then-n-ge10 w ↦ rw w.self-is (put_front_more _ w.if-n-ge10.true w.put_decimal.ensures) | else-n-ge10 w ↦ rw w.self-is (put_front_less _ _ w.if-n-ge10.false) ])

pub returns : goal.returns
returns t c = put_as (decimal_front c.args.n) (put_then {a = c.args.self.now} {b = c.if-n-ge10.self} (elim c.if-n-ge10.branch [ then-n-ge10 w ↦ rw w.self-is (put_front_more _ w.if-n-ge10.true w.put_decimal.ensures) | else-n-ge10 w ↦ rw w.self-is (put_front_less _ _ w.if-n-ge10.false) ]) c.put_byte.ensures)
