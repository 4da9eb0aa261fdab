-- What a search of k channels of n readings asks of the run and of the lent areas. Rule 2.3. Definitions only.
use Rattle.std.specs.Prelude.{ℕ, ◌+◌, ◌*◌, ◌/◌, Bool, ◌&&◌, leb}
use Rattle.refusals.specs.Limits.{max_channels, max_readings}

-- a run of `run` readings has `k` channels of `n`, within the limits of rule 1.3; `m` is at least 1 and at most `n`
unfoldable pub series_fits : ℕ → ℕ → ℕ → ℕ → Bool
series_fits run n k m = leb k max_channels && (leb n max_readings && (leb (k * n) run && (leb 1 m && leb m n)))

-- the room: n/2 cuts rounded down, (2k + 2)(n + 1) work floats, 3(n + 1) work indices
abbrev pub cuts_for : ℕ → ℕ
cuts_for n = n / 2

abbrev pub floats_for : ℕ → ℕ → ℕ
floats_for n k = (2 * k + 2) * (n + 1)

abbrev pub indices_for : ℕ → ℕ
indices_for n = 3 * (n + 1)

-- `floats` and `indices` are at least that room
unfoldable pub room_fits : ℕ → ℕ → ℕ → ℕ → Bool
room_fits n k floats indices = leb (floats_for n k) floats && leb (indices_for n) indices

-- the readings and the room of a search fit
unfoldable pub search_fits : ℕ → ℕ → ℕ → ℕ → ℕ → ℕ → Bool
search_fits run n k m floats indices = series_fits run n k m && room_fits n k floats indices
