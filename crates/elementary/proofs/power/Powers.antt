-- The turns of `powi`: the bound on the number of bits does not matter, and a turn is one step of `pow_from`. Assumes nothing.
use Rattle.std.proofs.Common.{◌≡◌, ℕ, zero, suc, ◌/◌, ◌%◌, ◌<◌, ◌≤◌, refl, not-suc-le-zero, arith}
use lib.Ieee.{Float}
use Rattle.floats.specs.Numbers.{◌*ᶠ◌}
use Rattle.elementary.specs.Power.{times_if, pow_from}

-- any two bounds `k` and `j` that are at least `n` serve alike
pub same_powers : (k j n : ℕ) (b r : Float) → n ≤ k → n ≤ j → pow_from k n b r ≡ pow_from j n b r
unfolding pow_from
same_powers zero zero n b r h g = refl
same_powers zero (suc j) zero b r h g = refl
same_powers zero (suc j) (suc n) b r h g = absurd (not-suc-le-zero h)
same_powers (suc k) zero zero b r h g = refl
same_powers (suc k) zero (suc n) b r h g = absurd (not-suc-le-zero g)
same_powers (suc k) (suc j) zero b r h g = refl
same_powers (suc k) (suc j) (suc n) b r h g = same_powers k j (suc n / 2) (b *ᶠ b) (times_if (suc n % 2) r b) (omega arith) (omega arith)

-- one turn, for an `n` above 0
pub one_turn : (n : ℕ) (b r : Float) → 0 < n → pow_from n n b r ≡ pow_from (n / 2) (n / 2) (b *ᶠ b) (times_if (n % 2) r b)
unfolding pow_from
one_turn zero b r h = absurd (not-suc-le-zero h)
one_turn (suc n) b r h = same_powers n (suc n / 2) (suc n / 2) (b *ᶠ b) (times_if (suc n % 2) r b) (omega arith) (omega arith)

-- with no bits left
pub no_turn : (n : ℕ) (b r : Float) → n ≡ 0 → pow_from n n b r ≡ r
unfolding pow_from
no_turn n b r e = rw e
