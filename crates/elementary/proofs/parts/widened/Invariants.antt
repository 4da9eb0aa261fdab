use Rattle.std.proofs.Common.{◌≡◌, ◌-◌, ◌*◌, ◌^◌, ◌<◌, ◌≤◌}
use Rattle.elementary.proofs.parts.widened.Given as goal

abbrev pub invariant-loop-significand : goal.invariant-loop-significand
invariant-loop-significand l = (l.significand ≡ l.count * 2 ^ l.doublings) × (0 < l.significand) × (l.significand < 2 ^ 53) × (l.doublings ≤ 52)

abbrev pub decreases-loop-significand : goal.decreases-loop-significand
decreases-loop-significand l = 2 ^ 53 - l.significand
