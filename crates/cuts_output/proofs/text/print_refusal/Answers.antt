-- `cuts_output::text::print_refusal` meets its contract: nothing without room, and else the text part after part. Assumes nothing.
use Rattle.std.proofs.Common.{ℕ, [], ◌∷◌, ◌++◌, ap, refl, ◌∙◌, arith, rules}
use Rattle.refusals.specs.Stated.{stated}
use Rattle.cuts_output.specs.Lines.{newline, refused_word, spaced}
use Rattle.cuts_output.proofs.LineLaws.{refused_text, refusal_shown, refusal_kept}
use Rattle.cuts_output.proofs.PutLaws.{put_then, put_long, put_whole}
use Rattle.cuts_output.proofs.text.print_refusal.Goals as goal

pub returns-then-out-lt71 : goal.returns-then-out-lt71
returns-then-out-lt71 c = refusal_kept _ _ c.if-out-lt71.true

pub put_values-requires : goal.put_values-requires
put_values-requires c = omega (arith, c.if-out-lt71.false, c.put_word.ensures.written.place, c.put_spaced.ensures.short, put_long c.put_word.ensures, put_long c.put_spaced.ensures.text)

pub put_byte-requires : goal.put_byte-requires
put_byte-requires c = omega (arith, c.if-out-lt71.false, c.put_word.ensures.written.place, c.put_spaced.ensures.short, c.put_values.ensures.short, put_long c.put_word.ensures, put_long c.put_spaced.ensures.text, put_long c.put_values.ensures.text)

pub returns : goal.returns
returns c =
    let whole = put_then (put_then (put_then c.put_word.ensures c.put_spaced.ensures.text) c.put_values.ensures.text) c.put_byte.ensures in
    let said = ap (λ (k : ℕ). refused_word ++ spaced (k ∷ []) ++ spaced (stated c.args.refusal).values ++ (newline ∷ [])) c.number.ensures ∙ refused_text c.args.refusal ∙ refusal_shown _ _ c.if-out-lt71.false in
    put_whole (search (rules, whole.same_area)) said refl whole (omega (arith, c.if-out-lt71.false, c.put_word.ensures.written.place, c.put_spaced.ensures.short, c.put_values.ensures.short, c.put_byte.ensures.written.place))
