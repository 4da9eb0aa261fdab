-- `elementary::root::settled` meets its contract: the distance that it finds is that of the guess. Assumes nothing.
use Rattle.std.proofs.Common.{◌≡◌, ℕ, ◌+◌, ◌*◌, ◌^◌, sym, subst}
use Rattle.elementary.specs.Inner.Parts.{Near}
use Rattle.elementary.proofs.root.Settles.{distance}
use Rattle.elementary.proofs.root.settled.Goals as goal

pub returns-then-distance-guess : goal.returns-then-distance-guess
returns-then-distance-guess c =
    let apart : c.args.square * 2 ^ 52 ≡ c.args.guess * c.args.guess + c.wrapping_sub_u64-distance.result = distance _ _ _ _ _ c.if-guess-le9007199254740992.true c.wrapping_sub_u64-high.ensures.value c.if-high-lt549755813888.true c.wrapping_sub_u64-middle.ensures.value c.if-middle-lt34359738368.true c.wrapping_sub_u64-distance.ensures.value c.if-distance-guess.true in
    subst (λ (x : ℕ). Near x c.beside.result) (sym apart) c.beside.ensures
