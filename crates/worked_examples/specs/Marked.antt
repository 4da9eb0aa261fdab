-- The worked examples P1 to P13 of docs/RULES.md. Section 9. Definitions only.
use Rattle.std.specs.Prelude.{List, [], ◌∷◌, Float}
use Rattle.std.specs.Float.{nan}
use Rattle.std.specs.Float.Ieee.{neg}
use Rattle.floats.specs.Numbers.{+0, of_whole, ratio}
use Rattle.refusals.specs.Stated.{plain}
use Rattle.costs.specs.declared.CostFunction.TheVariants.{L2}
use Rattle.costs.specs.declared.Penalty.TheVariants.{Bic}
use Rattle.charts.specs.declared.Side.TheVariants.{None, Above}
use Rattle.charts.specs.declared.Sum.TheVariants.{Upper}
use Rattle.cusum.specs.Chart as Cusum
use Rattle.cusum.specs.declared.Cusum.{Cusum}
use Rattle.ewma.specs.Chart as Ewma
use Rattle.ewma.specs.declared.Ewma.{Ewma}
use Rattle.ewma.specs.declared.Edition.TheVariants.{First}
use Rattle.worked_examples.specs.Rows.{Row, wholes, custom, halves, plainly, strictly, finds, runs_out, refuses, resolves, gap_at, sums_are, averages_are, hears}

-- 0 0 4 4, and with a gap
abbrev pub step : List Float
step = wholes (0 ∷ 0 ∷ 4 ∷ 4 ∷ [])

abbrev pub gap : List Float
gap = of_whole 0 ∷ nan ∷ of_whole 4 ∷ of_whole 4 ∷ []

-- target 0, sigma 1: a CUSUM with the defaults; an EWMA of the first edition with lambda 1 and L 3
abbrev pub sums : Cusum
sums = Cusum.new_of +0 (of_whole 1)

abbrev pub averages : Ewma
averages = Ewma.with_params +0 (of_whole 1) (of_whole 1) (of_whole 3) First

unfoldable pub marked_rows : List Row
marked_rows =
    -- P1 cut 2
    finds (plainly L2 (custom 1) 2 step 2) 1 (2 ∷ 7 ∷ [])
    -- P2 cut 2
    ∷ finds (plainly L2 (halves 31) 2 step 2) 1 (2 ∷ 7 ∷ [])
    -- P3 a tie, none
    ∷ finds (plainly L2 (custom 16) 2 step 2) 0 (7 ∷ 7 ∷ [])
    -- P4 one slot, refusal 9
    ∷ runs_out (plainly L2 (custom 1) 2 step 1)
    -- P5 m 3, none
    ∷ finds (plainly L2 (custom 1) 3 step 2) 0 (7 ∷ 7 ∷ [])
    -- P6 m 1, refusal 2
    ∷ refuses (plainly L2 (custom 1) 1 step 2) (plain 2)
    -- P7 custom 0 and m 1, refusal 1
    ∷ refuses (plainly L2 (custom 0) 1 step 2) (plain 1)
    -- P8 BIC: penalty 0, none
    ∷ resolves (plainly L2 Bic 2 (wholes (5 ∷ 5 ∷ 5 ∷ 5 ∷ [])) 2) +0
    ∷ finds (plainly L2 Bic 2 (wholes (5 ∷ 5 ∷ 5 ∷ 5 ∷ [])) 2) 0 (7 ∷ 7 ∷ [])
    -- P9 plain, no cuts; strict, refusal 8 at 0, 1
    ∷ finds (plainly L2 (custom 1) 2 gap 3) 0 (7 ∷ 7 ∷ [])
    ∷ refuses (strictly L2 (custom 1) 2 gap 3) (gap_at 0 1)
    -- P10 upper 2.5, 5, 7.5; above only at index 2
    ∷ sums_are sums (wholes (3 ∷ 3 ∷ 3 ∷ [])) ((ratio 5 2, +0, None) ∷ (of_whole 5, +0, None) ∷ (ratio 15 2, +0, Above) ∷ [])
    -- P11 run length of level 3, upper: 3
    ∷ hears sums (of_whole 3) Upper 3
    -- P12 upper 7.5, 7.5; above, none
    ∷ sums_are sums (of_whole 8 ∷ nan ∷ []) ((ratio 15 2, +0, Above) ∷ (ratio 15 2, +0, None) ∷ [])
    -- P13 limits -3 and 3; 3 is none, 3.5 above
    ∷ averages_are averages (of_whole 3 ∷ []) ((of_whole 3, neg (of_whole 3), of_whole 3, None) ∷ [])
    ∷ averages_are averages (ratio 7 2 ∷ []) ((ratio 7 2, neg (of_whole 3), of_whole 3, Above) ∷ [])
    ∷ []
