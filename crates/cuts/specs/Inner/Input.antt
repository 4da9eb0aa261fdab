-- What is taken for the program's input. Definitions only.
use Rattle.std.specs.Prelude.{◌≡◌, ℕ, ◌≤◌, List, length, take, Result, Ok, Err}

-- `&xs[..n]` is in bounds and has n bytes. The second part follows from the first, and spares a caller's `&buf[..n]` an answer.
abbrev pub IsPrefixLen : ℕ → List ℕ → Type 0
IsPrefixLen n xs = (n ≤ length xs) × (n ≡ length (take n xs))

-- how many bytes are taken for the input: `count`, as many as were read, where the last read found the end; `room`, which is too many, where it failed
abbrev pub taken_as : {E : Type 0} → Result ℕ E → ℕ → ℕ → ℕ
taken_as (Ok n) count room = count
taken_as (Err e) count room = room
