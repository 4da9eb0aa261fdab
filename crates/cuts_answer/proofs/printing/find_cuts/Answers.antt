-- `cuts_answer::printing::find_cuts` meets its contract: the search that the input asks for, or refusal 10. Assumes nothing.
use Rattle.std.proofs.Common.{sym}
use lib.Seq.{length-take-le}
use Rattle.cuts_answer.proofs.AnswerLaws.{form_says, asked_fits, asked_of}
use Rattle.cuts_answer.proofs.printing.find_cuts.Goals as goal

pub returns-in_default : goal.returns-in_default
returns-in_default c = form_says _ c.read_request-parsed.ensures c.in_default.is

pub slice_bounds-run-end : goal.slice_bounds-run-end
slice_bounds-run-end c = (asked_fits c.read_request-parsed.ensures c.in-Some.is).0

pub slice_bounds-area-end : goal.slice_bounds-area-end
slice_bounds-area-end c = (asked_fits c.read_request-parsed.ensures c.in-Some.is).1

pub slice_bounds-readings-end : goal.slice_bounds-readings-end
slice_bounds-readings-end c = sym (length-take-le _ _ (asked_fits c.read_request-parsed.ensures c.in-Some.is).0)

pub slice_bounds-lengths-end : goal.slice_bounds-lengths-end
slice_bounds-lengths-end c = sym (length-take-le _ _ (asked_fits c.read_request-parsed.ensures c.in-Some.is).1)

pub returns : goal.returns
returns c = rw (asked_of c.read_request-parsed.ensures c.in-Some.is) c.search.ensures
