-- No sum of a record is -0, whatever the readings, with an allowance of either zero too: so the larger of a sum and 0 never has to choose between two zeros. Assumes nothing.
use mathlib.Core.Path.{◌≡◌, refl}
use Prim.Native.Nat.{ℕ, zero, suc}
use mathlib.Core.Bool.{Bool, true, false}
use mathlib.Core.List.{List}
use lib.Dec.{T}
use lib.ListN.{get_or}
use lib.Ieee.{Float, nan, binary64, fits}
use lib.Ieee.Fits.{div-fits}
use Rattle.floats.specs.Numbers.{◌-ᶠ◌}
use Rattle.floats.specs.Finite.{finite}
use Rattle.floats.specs.Inner.MinusZero.{negative_zero}
use Rattle.floats.proofs.MinusZero.{Plain, plain_is_other, plain_zero, plain_add, plain_sub, plain_max}
use Rattle.charts.specs.declared.Observation.{Observation}
use Rattle.charts.specs.Runs.{state_at}
use Rattle.cusum.specs.declared.Cusum.{Cusum}
use Rattle.cusum.specs.declared.CusumResult.{CusumResult}
use Rattle.cusum.specs.Chart.{score, step_of, shown_of, start_state, next_state, record_at}

-- both sums of a record
record PlainSums (r : CusumResult) : Type 0 where
  upper : Plain r.s_upper
  lower : Plain r.s_lower

-- an allowance that binary64 holds
module _ (c : Cusum) (k : T (fits binary64 c.k)) where
  step_plain : (r : CusumResult) (i : Observation) (x : Float) → PlainSums r → PlainSums (step_of c r i x)
  unfolding step_of
  step_plain r i x p = go (finite x) refl
    where
      z : T (fits binary64 (score c x))
      z = div-fits binary64 (x -ᶠ c.target) c.sigma

      go : (b : Bool) → finite x ≡ b → PlainSums (step_of c r i x)
      go true e = rw (step_of, e) (record { upper = plain_max (plain_sub c.k (plain_add (score c x) p.upper z) k) plain_zero; lower = plain_max (plain_sub c.k (plain_sub (score c x) p.lower z) k) plain_zero })
      go false e = rw (step_of, e) (record { upper = p.upper; lower = p.lower })

  before_plain : (xs : List Float) (i : ℕ) → PlainSums (shown_of (state_at shown_of start_state next_state c xs i))
  before_plain xs zero = record { upper = plain_zero; lower = plain_zero }
  before_plain xs (suc i) = step_plain (shown_of (state_at shown_of start_state next_state c xs i)) (record { 0 = i }) (get_or xs i nan) (before_plain xs i)

  pub sums_no_minus_zero : (xs : List Float) (i : ℕ) → ((record_at c xs i).s_upper ≡ negative_zero → ⊥) × ((record_at c xs i).s_lower ≡ negative_zero → ⊥)
  sums_no_minus_zero xs i = let p = before_plain xs (suc i) in (plain_is_other p.upper, plain_is_other p.lower)
