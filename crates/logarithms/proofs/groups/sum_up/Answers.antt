-- `logarithms::groups::sum_up` meets its contract: one group more. Assumes nothing.
use Rattle.std.proofs.Common.{◌≡◌, ℕ, ◌+◌, ◌*◌, subst, arith}
use Rattle.logarithms.specs.Inner.Stages.{Begun, Each}
use Rattle.logarithms.proofs.GroupLaws.{each_group}
use Rattle.logarithms.proofs.groups.sum_up.Goals as goal

next : (g : ℕ) → 16 * g + 16 ≡ 16 * (g + 1)
next g = omega arith

pub loop-group-preserved : goal.loop-group-preserved
loop-group-preserved c =
    let l = c.loop-group in
    subst (λ (n : ℕ). Each (Begun 0) n c.args.ratios.now c.put_group.new.values) (next l.group) (each_group l.invariant c.group_at.ensures c.sums_of.ensures c.put_group.ensures)
