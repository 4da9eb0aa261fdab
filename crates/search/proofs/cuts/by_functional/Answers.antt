-- `search::cuts::by_functional` meets its contract: by what the functional search and the walk back leave. Assumes nothing.
use Rattle.search.proofs.FindingLaws.{functional_left, functional_nine}
use Rattle.search.proofs.cuts.by_functional.Goals as goal

pub returns-then-partition_functional : goal.returns-then-partition_functional
returns-then-partition_functional c = functional_left _ _ c.requires.0 c.requires.1 c.requires.2 c.requires.3 c.partition_functional.ensures c.if-partition_functional.true c.cut_back.ensures

pub returns : goal.returns
returns c = functional_nine _ _ c.requires.0 c.requires.1 c.requires.2 c.requires.3 c.partition_functional.ensures c.if-partition_functional.false
