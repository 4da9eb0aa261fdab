-- What the program answers to its input. Rules 7.2 and 7.3. Definitions only.
use Rattle.std.specs.Prelude.{ℕ, ◌-◌, Bool, true, List, ◌++◌, length, replicate, Option, Some, None}
use Rattle.std.proofs.Math.Option as maybe
use Rattle.refusals.specs.Tried.{tried}
use Rattle.refusals.specs.Said.{Said, refusing, answered}
use Rattle.refusals.specs.declared.Refusal.{Refusal}
use Rattle.readings.specs.Shape.{first_length}
use Rattle.search_rules.specs.Room.{cuts_for, floats_for, indices_for}
use Rattle.search_answer.specs.Tests.{search_tests}
use Rattle.search_answer.specs.Search.{cuts_found}
use Rattle.cuts_input.specs.Form.{Request, request_of}
use Rattle.cuts_output.specs.Lines.{text}
use Rattle.cuts_answer.specs.declared.Printed.{Printed}

-- the slots that the program lends its search
abbrev pub program_slots : ℕ
program_slots = 40

-- the most bytes of an output, behind which the program's area is zero
abbrev pub output_bytes : ℕ
output_bytes = 10841

-- the refusals of the strict search that `q` asks for, with the room that it needs, so that 7 isn't met
unfoldable pub strict_tests : Request → List (Bool × Refusal)
strict_tests q =
    let n = first_length q.channels.lengths in
    let k = length q.channels.lengths in
    search_tests true q.settings.penalty q.settings.m q.channels.run q.channels.lengths (cuts_for n) (floats_for n k) (indices_for n)

-- the cuts that it finds, or 9
unfoldable pub strict_cuts : Request → maybe.Option (List ℕ)
strict_cuts q = cuts_found q.settings.cost q.settings.penalty q.settings.m q.channels.run (first_length q.channels.lengths) (length q.channels.lengths) program_slots

-- what is said of them: the cuts themselves, or refusal 9
unfoldable pub cuts_said : maybe.Option (List ℕ) → Said
cuts_said (maybe.some cuts) = answered cuts
cuts_said maybe.none = refusing Refusal.Pool

-- 10 is tried first; then the search
unfoldable pub request_said : Option Request → Said
request_said None = refusing Refusal.Form
request_said (Some q) = tried refusing (strict_tests q) (cuts_said (strict_cuts q))

-- the bytes that go out for the bytes `input` that come in
unfoldable pub output : List ℕ → List ℕ
output input = text (request_said (request_of input))

-- what `answer` returns: the output at the front of the bytes, with its length, and zeros behind it
abbrev pub printed : List ℕ → Printed
printed input = record { bytes = output input ++ replicate (output_bytes - length (output input)) 0; length = length (output input) }
