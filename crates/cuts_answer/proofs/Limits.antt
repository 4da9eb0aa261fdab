-- The limits of the program that a user sees, in the numbers of rules 7.1 and 7.2. Assumes nothing.
use mathlib.Core.Path.{◌≡◌, refl}
use Rattle.cuts_input.specs.Form.{input_bytes}
use Rattle.cuts_answer.specs.Answer.{program_slots}

pub program_limits : (input_bytes ≡ 8236) × (program_slots ≡ 40)
program_limits = (refl, refl)
