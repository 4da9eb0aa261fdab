-- The exponent of the logarithm as a signed number: p - 2096 for a p of at most 4,096. Assumes nothing.
use Rattle.std.proofs.Common.{◌≡◌, ℕ, suc, ◌+◌, ◌-◌, ◌^◌, ◌<◌, ◌≤◌, Bool, true, false, cond, ltb, ℤ, pos, negsuc, ◌+ℤ◌, ◌-ℤ◌, sym, ap, ◌∙◌, arith, w32, SFits, to_z, of_z, lt-ltb}
use lib.IntN.{+ℤ_assoc, +ℤ_comm}
use lib.Signed.{mag}
use mir.ValLaws.{to_z-of_z}

-- a `p` of at most 4,096 is itself as a signed number of 32 bits
pub small_signed : (p : ℕ) → p ≤ 4096 → to_z w32 p ≡ pos p
small_signed p h = rw (lt-ltb p (2 ^ 31) (omega arith))

pub difference_fits : (p : ℕ) → p ≤ 4096 → SFits w32 (pos p -ℤ pos 2096)
difference_fits p h = record { sfits = go (ltb p 2096) }
  where
    go : (b : Bool) → mag (cond b (negsuc (2096 - suc p)) (pos (p - 2096))) < 2 ^ 31
    go true = omega arith
    go false = omega arith

pub difference_kept : (p : ℕ) → p ≤ 4096 → to_z w32 (of_z w32 (to_z w32 p -ℤ pos 2096)) ≡ pos p -ℤ pos 2096
difference_kept p h = ap (λ (z : ℤ). to_z w32 (of_z w32 (z -ℤ pos 2096))) (small_signed p h) ∙ to_z-of_z w32 (pos p -ℤ pos 2096) (difference_fits p h)

-- a `p` that is one more
pub one_more : (p : ℕ) → pos (p + 1) -ℤ pos 2096 ≡ pos p -ℤ pos 2096 +ℤ pos 1
one_more p = +ℤ_assoc (pos p) (pos 1) (negsuc 2095) ∙ ap (λ (z : ℤ). pos p +ℤ z) (+ℤ_comm (pos 1) (negsuc 2095)) ∙ sym (+ℤ_assoc (pos p) (negsuc 2095) (pos 1))

-- the exponent `d - 1074` as the code has it, `d + 1022` less 2096
pub from_digits : (d : ℕ) → pos d -ℤ pos 1074 ≡ pos (d + 1022) -ℤ pos 2096
from_digits d = sym (+ℤ_assoc (pos d) (pos 1022) (negsuc 2095))
