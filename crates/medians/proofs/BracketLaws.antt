-- Laws of brackets around the value of a rank: the first one, its halves, and what one says at the end. Assumes nothing.
use Prim.Native.Nat.{ℕ, ◌+◌, ◌-◌, ◌≤◌, ◌<◌}
use mathlib.Core.Path.{◌≡◌}
use mathlib.Core.List.{List}
use native.Mathlib.Nat.{le_refl, lt_of_lt_of_le}
use native.Mathlib.Omega.{arith}
use lib.ListN.{length, get_or}
use lib.Ieee.{Float, nan, binary64, lt, eq, of_bits}
use Rattle.medians.specs.declared.Bracket.{Bracket}
use Rattle.medians.specs.Inner.Ranks.{Each, magnitude, count_below, numbers, ranked_of, highest, Around}
use Rattle.medians.proofs.CountLaws.{count_most, count_length, count_implied}
use Rattle.medians.proofs.RankLaws.{none_below_zero, below_number, equals_itself, near_found}

-- the bracket from 0 up to infinity
pub around_first : (xs : List Float) (k : ℕ) → Each magnitude xs → k < count_below (of_bits binary64 highest) xs → Around xs k (record { low = 0; high = highest })
around_first xs k m h =
    record {
      known = le_refl highest;
      apart = omega arith;
      few = omega (arith, count_most (λ (y : Float). lt y (of_bits binary64 0)) xs 0 (λ i l h. none_below_zero (get_or xs i nan) (m.each i h)));
      many = h;
    }

-- where a bracket has one pattern, it is that of the value
some_number : (xs : List Float) (p : ℕ) → count_below (of_bits binary64 p) xs ≤ numbers xs
some_number xs p = count_implied (λ (y : Float). lt y (of_bits binary64 p)) (λ (y : Float). eq y y) xs (λ i l e. equals_itself (get_or xs i nan) (below_number (get_or xs i nan) (of_bits binary64 p) e))

pub around_found : (xs : List Float) (m : Each magnitude xs) (k : ℕ) (b : Bracket) → Around xs k b → b.high - b.low ≤ 1 → of_bits binary64 b.low ≡ ranked_of xs k
around_found xs m k b a e =
    let next : b.low + 1 ≡ b.high = omega (arith, a.apart, e) in
    near_found xs m k (lt_of_lt_of_le a.many (count_length (λ (y : Float). lt y (of_bits binary64 b.high)) xs))
    (lt_of_lt_of_le a.many (some_number xs b.high))
    record {
      known = omega (arith, a.known, a.apart);
      few = a.few;
      many = λ q. rw next a.many;
    }

pub infinite_found : (xs : List Float) (m : Each magnitude xs) (k : ℕ) → k < length xs → count_below (of_bits binary64 highest) xs ≤ k → k < numbers xs → of_bits binary64 highest ≡ ranked_of xs k
infinite_found xs m k inside few some =
    near_found xs m k inside some
    record { known = le_refl highest; few = few; many = λ q. absurd (let z : 0x7ff0_0000_0000_0000 + 1 ≤ 0x7ff0_0000_0000_0000 = q in omega (arith, z)) }
