-- `cuts_output::text::Text::put_values` meets its contract: none of the values, or both. Assumes nothing.
use Rattle.std.proofs.Common.{sym, ap, ◌∙◌, arith}
use Rattle.refusals.proofs.ValueLaws.{values_none, values_both}
use Rattle.cuts_output.specs.Lines.{spaced}
use Rattle.cuts_output.proofs.LineLaws.{spaced_append}
use Rattle.cuts_output.proofs.PutLaws.{put_none, put_then, put_as, put_long}
use Rattle.cuts_output.proofs.text.Text.put_values.Goals as goal

pub returns-in_default-clause-text : goal.returns-in_default-clause-text
unfolding spaced
returns-in_default-clause-text c = put_as (sym (ap spaced (values_none _ (sym c.in_default.is ∙ c.values.ensures)))) (put_none _)

pub put_spaced-requires-2 : goal.put_spaced-requires-2
put_spaced-requires-2 c = omega (arith, c.requires, c.put_spaced.ensures.short, put_long c.put_spaced.ensures.text)

pub returns-clause-text : goal.returns-clause-text
returns-clause-text c = put_as (sym (ap spaced (values_both _ _ _ (sym c.in-Some.is ∙ c.values.ensures)) ∙ spaced_append _ _)) (put_then c.put_spaced.ensures.text c.put_spaced-2.ensures.text)
