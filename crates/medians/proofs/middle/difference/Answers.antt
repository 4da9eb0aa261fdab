-- `medians::middle::difference` meets its contract. The loop's invariant: the first `i` differences are written. Assumes nothing.
use mathlib.Core.Path.{◌≡◌, refl, ap, ◌∙◌}
use Prim.Native.Nat.{◌-◌}
use native.Mathlib.Omega.{arith}
use lib.ListN.{length, length-set}
use Rattle.areas.specs.Parts.{tab}
use Rattle.medians.specs.Median.{difference_at, differences}
use Rattle.medians.proofs.MedianLaws.{differences_more, whole_front}
use Rattle.medians.proofs.middle.difference.Goals as goal

pub loop-i-init : goal.loop-i-init
unfolding tab
loop-i-init c = (refl, refl)

pub loop-i-preserved : goal.loop-i-preserved
unfolding difference_at
loop-i-preserved c =
    let inv = c.loop-i.invariant in
    (simp length-set inv.0, differences_more c.args.channel.now _ _ _ (omega arith) c.apart.ensures inv.1)

pub returns : goal.returns
unfolding differences
returns c =
    let channel = c.args.channel.now in
    let e : c.loop-i.i ≡ length c.loop-i.run = omega arith in
    let f : c.loop-i.i ≡ length channel - 1 = omega arith in
    whole_front _ _ _ e c.loop-i.invariant.1 ∙ ap (tab (difference_at channel)) f
