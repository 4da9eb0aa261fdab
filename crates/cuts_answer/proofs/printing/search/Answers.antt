-- `cuts_answer::printing::search` meets its contract: the room that is lent is as good as the room asked. Assumes nothing.
use Rattle.std.proofs.Common.{◌*◌, ◌≡◌, refl, List, ℕ, length, replicate, arith}
use Rattle.std.specs.Float.Ieee.{of_bits}
use Rattle.floats.specs.Numbers.{+0}
use Rattle.search_rules.specs.Limits.{slot_floats}
use Rattle.search_answer.specs.Outcome.{Areas, areas}
use Rattle.cuts_answer.specs.Answer.{program_slots}
use Rattle.cuts_answer.proofs.AnswerLaws.{searched_said}
use Rattle.cuts_answer.proofs.printing.search.Goals as goal

-- the areas as they are lent
abbrev lent : List ℕ → Areas
lent cuts = areas cuts (replicate 4138 +0) (replicate 3093 0) (replicate (slot_floats * program_slots) +0)

pub returns : goal.returns
unfolding of_bits
returns c =
    let room : length c.args.cuts.now ≡ 515 = omega arith in
    searched_said _ c.args.request _ _ (lent c.args.cuts.now) _ _ c.with_min_segment_len.ensures c.requires room refl refl refl c.detect_multi_strict.ensures
