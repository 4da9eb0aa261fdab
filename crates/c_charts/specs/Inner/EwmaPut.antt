-- The lent arrays of an EWMA chart: their room, and a record written to them. Definitions only.
use Rattle.std.specs.Prelude.{ℕ}
use Rattle.ewma.specs.declared.EwmaResult.{EwmaResult}
use Rattle.c_charts.specs.declared.ewma_columns.EwmaColumns.{EwmaColumns}
use Rattle.c_charts.specs.Inner.Walk.{set_in}
use Rattle.c_charts.specs.EwmaColumns.{ewma_of, ucl_of, lcl_of, side_byte, index_of, room_of}

abbrev pub room_in : EwmaColumns → ℕ
room_in s = room_of s.ewma.now s.ucl.now s.lcl.now s.side.now s.index.now

abbrev pub put_in : EwmaColumns → ℕ → EwmaResult → EwmaColumns
put_in s i row =
    record s { ewma = set_in s.ewma i (ewma_of row); ucl = set_in s.ucl i (ucl_of row); lcl = set_in s.lcl i (lcl_of row); side = set_in s.side i (side_byte row); index = set_in s.index i (index_of row) }
