use Rattle.std.proofs.Common.{◌+◌, ◌*◌, ◌≤◌, take}
use Rattle.cuts_output.specs.Lines.{lines}
use Rattle.cuts_output.specs.Inner.Text.{Put}
use Rattle.cuts_output.proofs.text.Text.put_lines.Given as goal

abbrev pub invariant-loop-cut : goal.invariant-loop-cut
invariant-loop-cut l = (l.self.at ≤ l.initial.self.at + 21 * l.cut-index) × Put (lines (take l.cut-index l.cuts)) l.initial.self l.self
