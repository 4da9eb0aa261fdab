-- The penalty of a change: by the Bayesian information criterion, BIC, or a custom value that it carries. Rule 3.3. Definitions only.
use Rattle.std.specs.Prelude.{ℕ, Float}
use Rattle.floats.specs.Numbers.{◌*ᶠ◌, of_whole}
use Rattle.elementary.specs.Logarithm.{ln}
use Rattle.costs.specs.declared.CostFunction.{CostFunction}
use Rattle.costs.specs.declared.Penalty.{Penalty}

-- BIC: p·ln(n) times `noise`, the sum of the noise variances, for L2 (p = 1), and times `channels` for Normal (p = 2)
unfoldable pub bic_penalty : CostFunction → ℕ → Float → Float → Float
bic_penalty CostFunction.L2 n channels noise = of_whole 1 *ᶠ ln (of_whole n) *ᶠ noise
bic_penalty CostFunction.Normal n channels noise = of_whole 2 *ᶠ ln (of_whole n) *ᶠ channels

-- the penalty of a change in `channels` channels of `n` readings: BIC, or the custom `value` times `channels`
unfoldable pub penalty_of : Penalty → CostFunction → ℕ → ℕ → Float → Float
penalty_of Penalty.Bic cost n channels noise = bic_penalty cost n (of_whole channels) noise
penalty_of (Penalty.Custom value) cost n channels noise = value *ᶠ of_whole channels
