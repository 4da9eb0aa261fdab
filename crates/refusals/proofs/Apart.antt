-- No two refusals are stated alike: each can be read back from its number and values. A number that is a hole is stated by none, and 11 is one. Assumes nothing.
use Prim.Native.Nat.{ℕ}
use mathlib.Core.Path.{◌≡◌, refl, sym, ap, ◌∙◌}
use mathlib.Core.Bool.{cond}
use mathlib.Core.List.{List, [], ◌∷◌}
use mathlib.Core.Option.{Option, none, some}
use lib.Dec.{eqb}
use lib.ListN.{get_or}
use Rattle.logic.proofs.Laws.{clash}
use Rattle.refusals.specs.Stated.{Stated, stated}
use Rattle.refusals.specs.Said.{refusing, said}
use Rattle.refusals.specs.declared.Refusal.{Refusal}
use Rattle.refusals.specs.declared.Refusal.TheVariants.{Penalty, MinLen, Channels, Shape, Unequal, TooLong, Room, NonFinite, Pool, Form, Piece, Target, Sigma, Weight, Bound}
use Rattle.std.specs.Prelude.{Result, Ok, Err}

-- each refusal with its number, where the values that are stated are `v`; numbers may have holes
cases : List ℕ → List (ℕ × Refusal)
cases v =
    (1, Penalty) ∷
    (2, MinLen) ∷
    (3, Channels) ∷
    (4, Shape) ∷
    (5, Unequal) ∷
    (6, TooLong) ∷
    (7, Room) ∷
    (8, NonFinite (get_or v 0 0) (get_or v 1 0)) ∷
    (9, Pool) ∷
    (10, Form) ∷
    (12, Piece) ∷
    (15, Target) ∷
    (16, Sigma) ∷
    (17, Weight) ∷
    (18, Bound) ∷
    []

-- the one of these refusals with the number `n`, and none where `n` is a hole
numbered : List (ℕ × Refusal) → ℕ → Option Refusal
numbered [] n = none
numbered (r ∷ rs) n = cond (eqb n r.0) (some r.1) (numbered rs n)

read : Stated → Option Refusal
read s = numbered (cases s.values) s.number

read_back : (r : Refusal) → read (stated r) ≡ some r
unfolding read numbered cases
read_back Penalty = refl
read_back MinLen = refl
read_back Channels = refl
read_back Shape = refl
read_back Unequal = refl
read_back TooLong = refl
read_back Room = refl
read_back (NonFinite channel index) = refl
read_back Pool = refl
read_back Form = refl
read_back Piece = refl
read_back Target = refl
read_back Sigma = refl
read_back Weight = refl
read_back Bound = refl

pub stated_apart : (r q : Refusal) → stated r ≡ stated q → r ≡ q
stated_apart r q e = let both : some r ≡ some q = sym (read_back r) ∙ ap read e ∙ read_back q in cc both

-- nor are two that are said as refusals, nor two answers
pub refused_apart : (r q : Refusal) → refusing r ≡ refusing q → r ≡ q
refused_apart r q e = let s : stated r ≡ stated q = cc in stated_apart r q s

pub answers_apart : (r q : Result ℕ Refusal) → said r ≡ said q → r ≡ q
answers_apart (Ok n) (Ok m) e = cc
answers_apart (Err r) (Err q) e = ap Err (refused_apart r q e)
answers_apart (Ok n) (Err q) e = cc
answers_apart (Err r) (Ok m) e = cc

-- a number names its refusal
by_number : (r : Refusal) (n : ℕ) → (stated r).number ≡ n → some r ≡ numbered (cases (stated r).values) n
unfolding read
by_number r n e = sym (read_back r) ∙ ap (numbered (cases (stated r).values)) e

-- 8 is the refusal of a reading that is not finite, with the values that are stated, and 9 that of too few slots
pub eight_is_gap : (r : Refusal) → (stated r).number ≡ 8 → r ≡ NonFinite (get_or (stated r).values 0 0) (get_or (stated r).values 1 0)
unfolding numbered cases
eight_is_gap r e = cc (by_number r 8 e)

pub nine_is_pool : (r : Refusal) → (stated r).number ≡ 9 → r ≡ Pool
unfolding numbered cases
nine_is_pool r e = cc (by_number r 9 e)

-- a hole is stated by no refusal
hole_unstated : (n : ℕ) → ((v : List ℕ) → numbered (cases v) n ≡ none) → (r : Refusal) → (stated r).number ≡ n → ⊥
hole_unstated n hole r e = let neither : some r ≡ none = by_number r n e ∙ hole (stated r).values in clash (cc neither)

-- 11, by which a wrong setting of a chart was known before each had a number of its own, is given no more
pub never_eleven : (r : Refusal) → (stated r).number ≡ 11 → ⊥
unfolding numbered cases
never_eleven r = hole_unstated 11 (λ v. refl) r
