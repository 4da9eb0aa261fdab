-- The contracts of `noise_variance` and `noise_sum` allow one answer and one area. Assumes nothing.
use Prim.Native.Nat.{ℕ}
use mathlib.Core.Path.{◌≡◌}
use mathlib.Core.List.{List}
use lib.Ieee.{Float}
use Rattle.logic.proofs.Laws.{one_outcome}
use Rattle.noise.specs.Noise.{Lent}

pub lent_once : {value : Float} {n place : ℕ} {before y z : List Float} {r s : Float} → Lent value n place before y r → Lent value n place before z s → (r ≡ s) × (y ≡ z)
lent_once l m = (one_outcome l.answer m.answer, one_outcome l.area m.area)
