-- No tally is above the number of cases that were read.
use Rattle.std.proofs.Common.{◌≤◌}
use Rattle.replay_floats.proofs.replay.Given as goal

abbrev pub invariant-loop-read : goal.invariant-loop-read
invariant-loop-read l = (l.progress.sqrt.cases ≤ l.read) × (l.progress.powi.cases ≤ l.read) × (l.progress.ln.cases ≤ l.read) × (l.progress.plain.cases ≤ l.read)
