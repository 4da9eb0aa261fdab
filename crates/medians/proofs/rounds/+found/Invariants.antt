use Prim.Native.Nat.{◌-◌}
use Rattle.medians.proofs.rounds.+found.Given as goal

abbrev pub decreases-found : goal.decreases-found
decreases-found l = 16 - l.rounds
