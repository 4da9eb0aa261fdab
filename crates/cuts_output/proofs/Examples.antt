-- Lines, evaluated by the definition. Assumes nothing.
use mathlib.Core.Path.{◌≡◌, refl}
use mathlib.Core.List.{[], ◌∷◌, map}
use Rattle.refusals.specs.Said.{answered, refused}
use Rattle.refusals.specs.Stated.{stated}
use Rattle.refusals.specs.declared.Refusal.TheVariants as Refusal
use Rattle.cuts_output.specs.Lines.{decimal_by, decimal, spaced, lines, text}

-- `cuts 1`, `2`; `cuts 0`; `cuts 2`, `7`, `1026`; `refused 8 7 127`; `refused 10`
line_rows : map text (answered (2 ∷ []) ∷ answered [] ∷ answered (7 ∷ 1026 ∷ []) ∷ refused (stated (Refusal.NonFinite 7 127)) ∷ refused (stated Refusal.Form) ∷ [])
    ≡ (99 ∷ 117 ∷ 116 ∷ 115 ∷ 32 ∷ 49 ∷ 10 ∷ 50 ∷ 10 ∷ [])
    ∷ (99 ∷ 117 ∷ 116 ∷ 115 ∷ 32 ∷ 48 ∷ 10 ∷ [])
    ∷ (99 ∷ 117 ∷ 116 ∷ 115 ∷ 32 ∷ 50 ∷ 10 ∷ 55 ∷ 10 ∷ 49 ∷ 48 ∷ 50 ∷ 54 ∷ 10 ∷ [])
    ∷ (114 ∷ 101 ∷ 102 ∷ 117 ∷ 115 ∷ 101 ∷ 100 ∷ 32 ∷ 56 ∷ 32 ∷ 55 ∷ 32 ∷ 49 ∷ 50 ∷ 55 ∷ 10 ∷ [])
    ∷ (114 ∷ 101 ∷ 102 ∷ 117 ∷ 115 ∷ 101 ∷ 100 ∷ 32 ∷ 49 ∷ 48 ∷ 10 ∷ [])
    ∷ []
unfolding decimal_by decimal spaced lines text
line_rows = refl
