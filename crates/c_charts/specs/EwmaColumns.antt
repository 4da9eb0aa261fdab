-- The records of an EWMA chart as arrays: what is told, and what each array holds afterwards. Rules 5.4, 5.7 and 8.3. Definitions only.
use Rattle.std.specs.Prelude.{ℕ, List, length, Float}
use Rattle.refusals.specs.Tried.{count_of}
use Rattle.refusals.specs.Said.{said}
use Rattle.charts.specs.Runs.{column}
use Rattle.charts.specs.Answers.{admitted_as}
use Rattle.charts.specs.Sides.{side_number}
use Rattle.ewma.specs.declared.EwmaResult.{EwmaResult}
use Rattle.ewma.specs.Chart.{records}
use Rattle.c_answers.specs.declared.Counted.{Counted}
use Rattle.c_answers.specs.Told.{counted_of}
use Rattle.c_charts.specs.declared.EwmaSettings.{EwmaSettings}
use Rattle.c_charts.specs.Columns.{shorter, shortest}
use Rattle.c_charts.specs.Editions.{chart_of, asked_tests}

-- the fields of a record, in their order
abbrev pub ewma_of : EwmaResult → Float
ewma_of r = r.ewma

abbrev pub ucl_of : EwmaResult → Float
ucl_of r = r.ucl

abbrev pub lcl_of : EwmaResult → Float
lcl_of r = r.lcl

abbrev pub side_byte : EwmaResult → ℕ
side_byte r = side_number r.side

abbrev pub index_of : EwmaResult → ℕ
index_of r = r.index.0

-- the room of the five arrays is that of the shortest
abbrev pub room_of : List Float → List Float → List Float → List ℕ → List ℕ → ℕ
room_of ewma ucl lcl side index = shortest (shorter (length ewma) (length ucl)) (length lcl) (length side) (length index)

-- what `ewma_analyze` tells and leaves: each array has, in front, that field of the records that `analyze` writes
abbrev pub ewma_arrays : EwmaSettings → List Float → List Float → List Float → List Float → List ℕ → List ℕ → Counted × List Float × List Float × List Float × List ℕ × List ℕ
ewma_arrays asked xs ewma ucl lcl side index =
    let answer = admitted_as (asked_tests asked) (length xs) (room_of ewma ucl lcl side index) in
    let shown = records (chart_of asked) xs (count_of answer) in
    (counted_of (said answer), column ewma_of shown ewma, column ucl_of shown ucl, column lcl_of shown lcl, column side_byte shown side, column index_of shown index)
