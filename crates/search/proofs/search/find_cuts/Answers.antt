-- `search::search::find_cuts` meets its contract: by what `admitted` answers. Assumes nothing.
use mathlib.Core.Path.{sym}
use Rattle.std.proofs.lemmas.Result.{err_from_is_err_and}
use Rattle.search_answer.specs.Outcome.{areas}
use Rattle.search_answer.proofs.AdmissionLaws.{admitted_fits}
use Rattle.search.proofs.FindingLaws.{detected_refused, detected_found}
use Rattle.search.proofs.search.find_cuts.Goals as goal

pub returns-in_err-channels : goal.returns-in_err-channels
returns-in_err-channels c =
    let p = err_from_is_err_and c.from_residual.result c.from_residual.ensures.1 in
    let a = c.args in
    rw (p.1, p.2) (detected_refused _ _ _ _ _ _ (areas a.cuts.now a.floats.now a.indices.now a.pool.now) _ (sym c.in_err-channels.ensures))

pub find-requires : goal.find-requires
find-requires c = admitted_fits _ _ _ _ _ _ _ _ _ (sym c.in_ok-channels.ensures)

pub returns : goal.returns
returns c = let a = c.args in detected_found _ _ _ _ _ _ (areas a.cuts.now a.floats.now a.indices.now a.pool.now) _ _ (sym c.in_ok-channels.ensures) c.find.ensures
