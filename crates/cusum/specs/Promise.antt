-- What promise 3 speaks of: the reading at which a level is first heard, and the finite readings of a span. Definitions only.
use Rattle.std.specs.Prelude.{ℕ, suc, ◌+◌, ◌≤◌, ◌<◌, ◌≡◌, Bool, not, List, T, get_or, Float}
use Rattle.std.specs.Float.{nan}
use Rattle.floats.specs.Numbers.{◌<ᶠ◌, ◌≤ᶠ◌}
use Rattle.floats.specs.Finite.{finite}
use Rattle.charts.specs.Spans.{count_in}
use Rattle.charts.specs.declared.Sum.{Sum}
use Rattle.charts.specs.declared.Sum.TheVariants.{Upper, Lower}
use Rattle.cusum.specs.declared.Cusum.{Cusum}
use Rattle.cusum.specs.RunLength.{sum_of, fed}

-- the fresh chart `c`, fed only the level `v`, first has the asked sum above h at reading `n`
pub record FirstHeard (c : Cusum) (v : Float) (asked : Sum) (n : ℕ) : Type 0 where
  pub reading : 0 < n
  pub over : T (c.h <ᶠ sum_of asked (fed c v n))
  pub before : (m : ℕ) → 0 < m → m < n → T (not (c.h <ᶠ sum_of asked (fed c v m)))

-- the reading `x` is at or above the level `v`, and for the lower sum at or below it
abbrev pub beyond : Sum → Float → Float → Bool
beyond Upper v x = v ≤ᶠ x
beyond Lower v x = x ≤ᶠ v

-- how many of the `d` readings of `xs` that begin at `p` are finite
abbrev pub finites : List Float → ℕ → ℕ → ℕ
finites xs p d = count_in finite xs p d

-- counted from `p`, the reading of `xs` at `p + d` is the `n`th finite one, and all the finite ones up to it are at the level `v` or beyond
pub record Lasting (asked : Sum) (v : Float) (xs : List Float) (p d n : ℕ) : Type 0 where
  pub nth : suc (finites xs p d) ≡ n
  pub last : T (finite (get_or xs (p + d) nan))
  pub all : (j : ℕ) → j ≤ d → T (finite (get_or xs (p + j) nan)) → T (beyond asked v (get_or xs (p + j) nan))
