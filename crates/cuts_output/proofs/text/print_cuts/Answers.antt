-- `cuts_output::text::print_cuts` meets its contract: nothing without room, and else the text part after part. Assumes nothing.
use Rattle.std.proofs.Common.{◌+◌, ◌*◌, ◌≤◌, length, refl, ◌∙◌, arith, rules}
use Rattle.cuts_output.proofs.LineLaws.{cuts_text, cuts_shown, cuts_kept}
use Rattle.cuts_output.proofs.PutLaws.{put_then, put_long, put_whole}
use Rattle.cuts_output.proofs.text.print_cuts.Goals as goal

pub returns-then-size-lt26 : goal.returns-then-size-lt26
returns-then-size-lt26 c = cuts_kept _ _ (omega (arith, c.if-size-lt26.true))

pub returns-then-size-count : goal.returns-then-size-count
returns-then-size-count c = cuts_kept _ _ (omega (arith, c.if-size-lt26.false, c.if-size-count.true))

pub put_byte-requires : goal.put_byte-requires
put_byte-requires c = omega (arith, c.if-size-lt26.false, c.put_word.ensures.written.place, c.put_spaced.ensures.short, put_long c.put_word.ensures, put_long c.put_spaced.ensures.text)

pub put_lines-requires : goal.put_lines-requires
put_lines-requires c =
    let room : 26 + 21 * length c.args.cuts.now ≤ length c.args.out.now = omega (arith, c.if-size-lt26.false, c.if-size-count.false) in
    omega (arith, room, c.put_word.ensures.written.place, c.put_spaced.ensures.short, c.put_byte.ensures.written.place, put_long c.put_word.ensures, put_long c.put_spaced.ensures.text, put_long c.put_byte.ensures)

pub returns : goal.returns
returns c =
    let room : 26 + 21 * length c.args.cuts.now ≤ length c.args.out.now = omega (arith, c.if-size-lt26.false, c.if-size-count.false) in
    let whole = put_then (put_then (put_then c.put_word.ensures c.put_spaced.ensures.text) c.put_byte.ensures) c.put_lines.ensures.text in
    put_whole (search (rules, whole.same_area)) (cuts_text _ refl ∙ cuts_shown _ _ room) refl whole (omega (arith, room, c.put_word.ensures.written.place, c.put_spaced.ensures.short, c.put_byte.ensures.written.place, c.put_lines.ensures.short))
