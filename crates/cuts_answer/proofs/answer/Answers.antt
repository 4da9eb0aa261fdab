-- `cuts_answer::answer` meets its contract. Assumes nothing.
use Rattle.cuts_answer.proofs.AnswerLaws.{answered_by}
use Rattle.cuts_answer.proofs.answer.Goals as goal

pub returns : goal.returns
returns c = answered_by _ c.print_answer-length.ensures
