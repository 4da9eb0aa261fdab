-- The run length: a fresh chart that is fed one level. Rule 5.6. Definitions only.
use Rattle.std.specs.Prelude.{ℕ, zero, suc, true, false, not, List, [], ◌∷◌, ◌++◌, Float}
use Rattle.floats.specs.Numbers.{◌<ᶠ◌}
use Rattle.floats.specs.Finite.{finite}
use Rattle.refusals.specs.Limits.{max_readings}
use Rattle.refusals.specs.Tried.{tried}
use Rattle.refusals.specs.Said.{Said, refusing, answered}
use Rattle.charts.specs.declared.Sum.{Sum}
use Rattle.charts.specs.declared.Sum.TheVariants.{Upper, Lower}
use Rattle.refusals.specs.declared.Refusal.TheVariants as Refusal
use Rattle.cusum.specs.declared.Cusum.{Cusum}
use Rattle.cusum.specs.declared.CusumResult.{CusumResult}
use Rattle.cusum.specs.Chart.{tests_of, step_of, fresh}

-- the asked sum of the record `r`
abbrev pub sum_of : Sum → CusumResult → Float
sum_of Upper r = r.s_upper
sum_of Lower r = r.s_lower

-- the record of the fresh chart `c` after `m` readings of the level `v`
unfoldable pub fed : Cusum → Float → ℕ → CusumResult
fed c v zero = fresh
fed c v (suc m) = step_of c (fed c v m) (record { 0 = m }) v

-- after `m` readings of the level `v`, with the record `r`: the first of the next `k` readings at which the asked sum is above h; where none is, no number
unfoldable pub heard_from : Cusum → Float → Sum → ℕ → ℕ → CusumResult → List ℕ
heard_from c v asked zero m r = []
heard_from c v asked (suc k) m r =
    let q = step_of c r (record { 0 = m }) v in
    elim (c.h <ᶠ sum_of asked q) [ true ↦ suc m ∷ [] | false ↦ heard_from c v asked k (suc m) q ]

-- the first of as many readings as a series may have, from 1; or none, not heard
unfoldable pub heard : Cusum → Float → Sum → List ℕ
heard c v asked = heard_from c v asked max_readings 0 fresh

-- what `run_length` says: the tests of the settings, then 8, at 0, 0, and then the reading
unfoldable pub run_length : Cusum → Float → Sum → Said
run_length c v asked = tried refusing (tests_of c ++ ((not (finite v), Refusal.NonFinite 0 0) ∷ [])) (answered (heard c v asked))
