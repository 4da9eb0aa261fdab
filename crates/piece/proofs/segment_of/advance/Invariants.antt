use Rattle.std.proofs.Common.{◌≡◌, take}
use Rattle.std.specs.List.{fold}
use Rattle.piece.specs.Inner.Running.{with_reading}
use Rattle.piece.proofs.segment_of.advance.Given as goal

abbrev pub invariant-loop-reading : goal.invariant-loop-reading
invariant-loop-reading l = record { sum = l.sum; sum_of_squares = l.sum_of_squares } ≡ fold (with_reading l.mean) l.fn.before (take l.reading-index l.readings)
