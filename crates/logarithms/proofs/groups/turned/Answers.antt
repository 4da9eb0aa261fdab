-- `logarithms::groups::turned` meets its contract. Assumes nothing.
use Rattle.std.proofs.Common.{rules}
use Rattle.logarithms.proofs.GroupLaws.{filled_by_calls}
use Rattle.logarithms.proofs.groups.turned.Goals as goal

pub returns : goal.returns
returns c = filled_by_calls _ c.from_fn.ensures.items (λ i x h call. search rules)
