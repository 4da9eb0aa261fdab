-- `cuts_answer::printing::print_answer` meets its contract: the cuts or the refusal, in lines. Assumes nothing.
use Rattle.std.proofs.Common.{◌≡◌, length, arith}
use Rattle.cuts_answer.proofs.AnswerLaws.{cuts_printed, refusal_printed}
use Rattle.cuts_answer.proofs.printing.print_answer.Goals as goal

pub returns-in-Ok : goal.returns-in-Ok
returns-in-Ok c =
    let room : length c.find_cuts.new.cuts ≡ 515 = omega (arith, c.find_cuts.array_long) in
    cuts_printed _ _ _ c.in-Ok.ensures room c.requires c.print_cuts.ensures

pub returns-in-Err : goal.returns-in-Err
returns-in-Err c = refusal_printed _ _ _ c.in-Err.ensures c.requires c.print_refusal.ensures
