-- `search::cuts::by_inequality` meets its contract: by what the inequality search and the walk back leave. Assumes nothing.
use Rattle.search.proofs.FindingLaws.{pruned_left}
use Rattle.search.proofs.cuts.by_inequality.Goals as goal

pub returns : goal.returns
returns c = pruned_left _ c.requires.0 c.requires.1 c.partition_pruned.ensures c.clear.ensures c.cut_back.ensures
