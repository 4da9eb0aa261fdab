-- The order in which refusals are tried, for any kind of answer. Rule 2.4. Definitions only.
use Rattle.std.specs.Prelude.{ℕ, Bool, true, not, ◌&&◌, cond, List, [], ◌∷◌, Result, Ok, Err}
use Rattle.refusals.specs.declared.Refusal.{Refusal}

-- the first refusal whose test holds, and `result` where none does; `refuse` makes an answer of a refusal
unfoldable pub tried : {A : Type 0} → (Refusal → A) → List (Bool × Refusal) → A → A
tried refuse [] result = result
tried refuse (t ∷ ts) result = cond t.0 (refuse t.1) (tried refuse ts result)

-- whether none of the tests holds
unfoldable pub passed : List (Bool × Refusal) → Bool
passed [] = true
passed (t ∷ ts) = not t.0 && passed ts

-- the first refusal whose test holds, and `count` where none does
abbrev pub counted : List (Bool × Refusal) → ℕ → Result ℕ Refusal
counted tests count = tried Err tests (Ok count)

-- how much was written: the count, and nothing on a refusal
abbrev pub count_of : Result ℕ Refusal → ℕ
count_of (Ok n) = n
count_of (Err r) = 0
