-- `logarithms::plain::all_plain` meets its contract. Assumes nothing.
use Rattle.std.proofs.Common.{sym, ◌∙◌}
use borrow.Author.Tests.{eqb-true}
use Rattle.logarithms.proofs.EachLaws.{all_counted}
use Rattle.logarithms.proofs.plain.all_plain.Goals as goal

pub returns : goal.returns
returns c = λ e. record { each = all_counted c.args.values.now (sym c.plain_count.ensures ∙ eqb-true _ _ e) }
