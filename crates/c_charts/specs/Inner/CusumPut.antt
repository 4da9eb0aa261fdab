-- The lent arrays of a CUSUM chart: their room, and a record written to them. Definitions only.
use Rattle.std.specs.Prelude.{ℕ}
use Rattle.cusum.specs.declared.CusumResult.{CusumResult}
use Rattle.c_charts.specs.declared.cusum_columns.CusumColumns.{CusumColumns}
use Rattle.c_charts.specs.Inner.Walk.{set_in}
use Rattle.c_charts.specs.CusumColumns.{upper_of, lower_of, side_byte, index_of, room_of}

abbrev pub room_in : CusumColumns → ℕ
room_in s = room_of s.s_upper.now s.s_lower.now s.side.now s.index.now

abbrev pub put_in : CusumColumns → ℕ → CusumResult → CusumColumns
put_in s i row = record s { s_upper = set_in s.s_upper i (upper_of row); s_lower = set_in s.s_lower i (lower_of row); side = set_in s.side i (side_byte row); index = set_in s.index i (index_of row) }
