-- What is told of an answer in plain numbers. Rule 8.2. Definitions only.
use Rattle.std.specs.Prelude.{ℕ, not, cond, List, [], ◌∷◌, ltb, eqb, get_or, Float, Result, Ok, Err, Option, Some, None}
use Rattle.refusals.specs.declared.Refusal.{Refusal}
use Rattle.floats.specs.Numbers.{+0}
use Rattle.refusals.specs.Stated.{stated}
use Rattle.refusals.specs.Tried.{tried}
use Rattle.refusals.specs.Said.{Said, refused, answered, refusing, said}
use Rattle.cusum.specs.declared.Cusum.{Cusum}
use Rattle.charts.specs.declared.Sum.{Sum}
use Rattle.charts.specs.declared.Sum.TheVariants.{Upper, Lower}
use Rattle.cusum.specs.RunLength.{run_length}
use Rattle.piece.specs.declared.PieceSummary.{PieceSummary}
use Rattle.c_answers.specs.declared.Told.{Told}
use Rattle.c_answers.specs.declared.Counted.{Counted}
use Rattle.c_answers.specs.declared.ToldSpread.{ToldSpread}
use Rattle.c_answers.specs.declared.ToldPiece.{ToldPiece}

-- the parts of an answer, as a call hands them back one by one
abbrev pub told_as : ℕ → ℕ → ℕ → ℕ → Told
told_as number count channel index = record { number = number; count = count; channel = channel; index = index }

-- a result is 0 and its first value, a refusal its number and its two values; 0 where there is none
unfoldable pub told_of : Said → Told
told_of (answered values) = told_as 0 (get_or values 0 0) 0 0
told_of (refused s) = told_as s.number 0 (get_or s.values 0 0) (get_or s.values 1 0)

-- the parts of an answer without channel and index, such an answer of one with them, and what is told so
abbrev pub counted_as : ℕ → ℕ → Counted
counted_as number count = record { number = number; count = count }

abbrev pub briefly : Told → Counted
briefly t = counted_as t.number t.count

abbrev pub counted_of : Said → Counted
counted_of s = briefly (told_of s)

-- the parts of a piece's summary
abbrev pub piece_as : ℕ → ℕ → Float → ℕ → Float → ToldPiece
piece_as number size mean has spread = record { number = number; length = size; mean = mean; has_spread = has; spread = spread }

-- 1 and the spread, or 0 and +0 where there is none
unfoldable pub spread_told : Option Float → ToldSpread
spread_told None = record { has = 0; value = +0 }
spread_told (Some x) = record { has = 1; value = x }

-- the values of a summary, or the refusal's number with zeros
unfoldable pub piece_of : Result PieceSummary Refusal → ToldPiece
piece_of (Ok p) = let told = spread_told p.spread in piece_as 0 p.length p.mean told.has told.value
piece_of (Err r) = piece_as (stated r).number 0 +0 0 +0

-- the sum that the number `asked` stands for: 0 is the upper, 1 the lower
unfoldable pub asked_sum : ℕ → Sum
asked_sum asked = cond (eqb asked 0) Upper Lower

-- that sum, or 10 where `asked` is any other number
abbrev pub sum_told : ℕ → Result Sum Refusal
sum_told asked = cond (ltb asked 2) (Ok (asked_sum asked)) (Err Refusal.Form)

-- 10 where `asked` is any other number, and then what the run length of `level` says
unfoldable pub run_length_of : Cusum → Float → ℕ → Said
run_length_of c level asked = tried refusing ((not (ltb asked 2), Refusal.Form) ∷ []) (run_length c level (asked_sum asked))

-- what a call answers and leaves in its lent slice, with the answer told in numbers
abbrev pub told_left : {A : Type 0} → Result ℕ Refusal × List A → Counted × List A
told_left outcome = (counted_of (said outcome.0), outcome.1)
