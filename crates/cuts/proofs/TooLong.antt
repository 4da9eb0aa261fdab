-- An input of more than 8,236 bytes is Form, whatever they are; so is one that could not be read, for which the program takes 8,237. Assumes nothing.
use Prim.Native.Nat.{ℕ, ◌<◌}
use mathlib.Core.Path.{◌≡◌, refl, ap}
use mathlib.Core.List.{List}
use Rattle.std.specs.Prelude.{None}
use borrow.Author.Tests.{lt-leb}
use lib.ListN.{length}
use Rattle.refusals.specs.Said.{refusing}
use Rattle.refusals.specs.declared.Refusal.TheVariants as Refusal
use Rattle.cuts_input.specs.Form.{request_of}
use Rattle.cuts_output.specs.Lines.{text}
use Rattle.cuts_answer.specs.Answer.{request_said, output}

no_request : (input : List ℕ) → 8236 < length input → request_of input ≡ None
unfolding request_of
no_request input h = rw (lt-leb (length input) 8236 h, request_of) refl

pub too_long : (input : List ℕ) → 8236 < length input → output input ≡ text (refusing Refusal.Form)
unfolding output request_said
too_long input h = ap (λ q. text (request_said q)) (no_request input h)
