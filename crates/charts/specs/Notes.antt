-- One index more among those that signal. Rule 5.5. Definitions only.
use Rattle.std.specs.Prelude.{ℕ, ◌+◌, Bool, ◌&&◌, cond, List, ltb, length, set}

-- how many indices there are then, and the lent ones, `entry`: `index` stands at `count` where there is a `signal` and room
abbrev pub noted : Bool → ℕ → ℕ → List ℕ → ℕ × List ℕ
noted signal index count entry = cond (signal && ltb count (length entry)) (count + 1, set entry count index) (count, entry)
