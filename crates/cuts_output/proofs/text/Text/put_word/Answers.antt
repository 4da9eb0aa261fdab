-- `cuts_output::text::Text::put_word` meets its contract: the word is copied over a part. Assumes nothing.
use Rattle.std.proofs.Common.{arith, refl}
use Rattle.cuts_output.proofs.LineLaws.{written_part}
use Rattle.cuts_output.proofs.text.Text.put_word.Goals as goal

pub returns : goal.returns
returns c = record { same_area = refl; written = record { place = refl; area = rw c.copy_from_slice.ensures.after (written_part _ _ _ _ (omega arith) c.requires) } }
