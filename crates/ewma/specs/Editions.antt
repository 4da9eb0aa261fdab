-- What is said of editions: a chart under an edition, the place after some readings, how many of them are finite, and the run of the Rust, whose states are the records and whose place is the index and 1. Rule 5.7. Definitions only.
use Rattle.std.specs.Prelude.{ℕ, suc, ◌<◌, ◌≡◌, true, List, get_or, Float}
use Rattle.std.specs.Float.{nan}
use Rattle.floats.specs.Finite.{finite}
use Rattle.charts.specs.Runs as Runs
use Rattle.charts.specs.Spans.{count_in}
use Rattle.charts.specs.declared.Place.{Place}
use Rattle.ewma.specs.declared.Edition.{Edition}
use Rattle.ewma.specs.declared.Ewma.{Ewma}
use Rattle.ewma.specs.declared.EwmaResult.{EwmaResult}
use Rattle.ewma.specs.Chart.{with_params, step_of, record_of, blank, fresh, next_of}

-- the chart `c` under another edition, or its own
abbrev pub under : Edition → Ewma → Ewma
under edition c = with_params c.target c.sigma c.lambda c.l_factor edition

-- the place after the first `n` readings of `xs`
abbrev pub place_at : Ewma → List Float → ℕ → Place
place_at c xs n = (Runs.state_at record_of fresh next_of c xs n).1

-- how many of them are finite, and that all are
abbrev pub finites : List Float → ℕ → ℕ
finites xs n = count_in finite xs 0 n

abbrev pub Gapless : List Float → ℕ → Type 0
Gapless xs n = (i : ℕ) → i < n → finite (get_or xs i nan) ≡ true

-- the Rust's run, which is that of all charts before there were editions
abbrev pub itself : EwmaResult → EwmaResult
itself r = r

abbrev pub next_record : Ewma → EwmaResult → ℕ → Float → EwmaResult
next_record c before i x = step_of c (record { 0 = suc i }) before (record { 0 = i }) x

abbrev pub rust_records : Ewma → List Float → ℕ → List EwmaResult
rust_records = Runs.records itself blank next_record
