-- The records of a CUSUM chart as arrays: what is told, and what each array holds afterwards. Rules 5.3 and 8.3. Definitions only.
use Rattle.std.specs.Prelude.{ℕ, List, length, Float}
use Rattle.refusals.specs.Tried.{count_of}
use Rattle.refusals.specs.Said.{said}
use Rattle.charts.specs.Runs.{column}
use Rattle.charts.specs.Answers.{admitted_as}
use Rattle.charts.specs.Sides.{side_number}
use Rattle.cusum.specs.declared.Cusum.{Cusum}
use Rattle.cusum.specs.declared.CusumResult.{CusumResult}
use Rattle.cusum.specs.Chart.{tests_of, records}
use Rattle.c_answers.specs.declared.Counted.{Counted}
use Rattle.c_answers.specs.Told.{counted_of}
use Rattle.c_charts.specs.Columns.{shortest}

-- the fields of a record, in their order
abbrev pub upper_of : CusumResult → Float
upper_of r = r.s_upper

abbrev pub lower_of : CusumResult → Float
lower_of r = r.s_lower

abbrev pub side_byte : CusumResult → ℕ
side_byte r = side_number r.side

abbrev pub index_of : CusumResult → ℕ
index_of r = r.index.0

-- the room of the four arrays is that of the shortest
abbrev pub room_of : List Float → List Float → List ℕ → List ℕ → ℕ
room_of upper lower side index = shortest (length upper) (length lower) (length side) (length index)

-- what `cusum_analyze` tells and leaves: each array has, in front, that field of the records that `analyze` writes
abbrev pub cusum_arrays : Cusum → List Float → List Float → List Float → List ℕ → List ℕ → Counted × List Float × List Float × List ℕ × List ℕ
cusum_arrays c xs upper lower side index =
    let answer = admitted_as (tests_of c) (length xs) (room_of upper lower side index) in
    let shown = records c xs (count_of answer) in
    (counted_of (said answer), column upper_of shown upper, column lower_of shown lower, column side_byte shown side, column index_of shown index)
