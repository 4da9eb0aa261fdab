use Rattle.std.proofs.Common.{arith}
use Rattle.functional.proofs.partition.search_in.Goals as goal

pub begin-requires : goal.begin-requires
begin-requires c =
    let p = c.requires in
    (p.0, p.1, p.2, omega (arith, c.as_chunks_mut-entries.ensures.front_len, p.3), p.4)

pub returns : goal.returns
returns c = rw (← c.begin.auto.slots) c.search.ensures
