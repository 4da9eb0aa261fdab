-- `elementary::parts::widened` meets its contract. The loop's invariant: `significand` is `count` doubled `doublings` times, and has at most 53 digits. Assumes nothing.
use Rattle.std.proofs.Common.{arith}
use Rattle.elementary.proofs.parts.Shifts.{few, twice_more, shifted}
use Rattle.elementary.proofs.parts.widened.Goals as goal

pub loop-significand-preserved : goal.loop-significand-preserved
loop-significand-preserved c =
    let at = c in
    let i = at.loop-significand.invariant in
    (twice_more at.args.count at.loop-significand.significand at.loop-significand.doublings i.0, omega arith, omega arith, omega (arith, few at.args.count at.loop-significand.significand at.loop-significand.doublings at.requires.0 i.0 c.loop-significand-test.true))

pub returns : goal.returns
returns c =
    let at = c in
    ((omega arith, omega arith, omega arith, omega arith), shifted at.args.count at.loop-significand.significand at.loop-significand.doublings at.loop-significand.invariant.0 (omega arith))
