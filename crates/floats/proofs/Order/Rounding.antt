-- `round` keeps the order of signed fractions: zeros, subnormal results and overflow included. Assumes nothing.
use mathlib.Core.Path.{◌≡◌, refl, sym, ap, ◌∙◌}
use mathlib.Core.Logic.{inl, inr}
use Prim.Native.Nat.{ℕ, zero, suc, ◌+◌, ◌*◌, ◌^◌, ◌<◌}
use native.Mathlib.Nat.{eq-zero-or-pos, mul-pos, zero-mul}
use native.Mathlib.Omega.{arith}
use mathlib.Core.Bool.{Bool, true, false, not, cond}
use lib.Dec.{T, ltb}
use lib.Pow.{pow_pos}
use lib.Ieee.{Float, nan, inf, fin, Format, prec, emax, low, up, down, odd, units, round, neg, le}
use lib.Ieee.Fits.{round_is}
use lib.Ieee.Exact.{HasValue, round_exact}
use lib.Ieee.Order.{round_mono}
use Rattle.floats.proofs.Order.Fractions.{Leq, leq→le}
use Rattle.floats.proofs.Order.Laws.{neg_anti}

-- ---- the sign of what `round` returns
-- a number that is not negative, or +0, or the positive infinity
abbrev pub clear : Float → Bool
clear nan = false
clear (inf s) = not s
clear (fin s m e) = not s

odd_neg : (d q k l : ℕ) → odd d true q k l ≡ neg (odd d false q k l)
unfolding odd neg
odd_neg d zero k l = refl
odd_neg d (suc q) k l = refl

units_neg : (f : Format) (q k : ℕ) → units f true q k ≡ neg (units f false q k)
unfolding units
units_neg f q k = go (ltb (q * 2 ^ k) (2 ^ (low f + suc (emax f))))
  where
    go : (b : Bool) → cond b (odd (suc (prec f)) true q k (low f)) (inf true) ≡ neg (cond b (odd (suc (prec f)) false q k (low f)) (inf false))
    go true = odd_neg (suc (prec f)) q k (low f)
    go false = unfold neg in refl

round_neg : (f : Format) (a c : ℕ) → round f true a c ≡ neg (round f false a c)
round_neg f a c = round_is f true a c ∙ units_neg f _ _ ∙ ap neg (sym (round_is f false a c))

odd_clear : (d q k l : ℕ) → T (clear (odd d false q k l))
unfolding odd
odd_clear d zero k l = tt
odd_clear d (suc q) k l = tt

pub units_clear : (f : Format) (q k : ℕ) → T (clear (units f false q k))
unfolding units
units_clear f q k = go (ltb (q * 2 ^ k) (2 ^ (low f + suc (emax f))))
  where
    go : (b : Bool) → T (clear (cond b (odd (suc (prec f)) false q k (low f)) (inf false)))
    go true = odd_clear (suc (prec f)) q k (low f)
    go false = tt

pub round_clear : (f : Format) (a c : ℕ) → T (clear (round f false a c))
round_clear f a c = rw (round_is f false a c) (units_clear f _ _)

-- a negative, or -0, is at most what is positive, or +0
neg_le : (x y : Float) → T (clear x) → T (clear y) → T (le (neg x) y)
unfolding le neg
neg_le nan y p q = absurd p
neg_le (inf true) y p q = absurd p
neg_le (inf false) nan p q = absurd q
neg_le (inf false) (inf true) p q = absurd q
neg_le (inf false) (inf false) p q = tt
neg_le (inf false) (fin t n d) p q = tt
neg_le (fin true m e) y p q = absurd p
neg_le (fin false m e) nan p q = absurd q
neg_le (fin false m e) (inf true) p q = absurd q
neg_le (fin false m e) (inf false) p q = tt
neg_le (fin false m e) (fin true n d) p q = absurd q
neg_le (fin false m e) (fin false n d) p q = leq→le true m e false n d (omega arith)

-- two zeros
no_factor : (a c : ℕ) → 0 < c → a * c ≡ 0 → a ≡ 0
no_factor a c C e = elim (eq-zero-or-pos a) [ inl z ↦ z | inr p ↦ absurd (clash (mul-pos p C)) ]
  where
    clash : 0 < a * c → ⊥
    clash h = omega arith

zeros_le : (x y : Float) (c d : ℕ) → 0 < c → 0 < d → HasValue x false 0 c → HasValue y true 0 d → T (le x y)
zeros_le nan y c d C D p q = absurd p
zeros_le (inf s) y c d C D p q = absurd p
zeros_le (fin s m e) nan c d C D p q = absurd q
zeros_le (fin s m e) (inf t) c d C D p q = absurd q
zeros_le (fin s m e) (fin t n o) c d C D p q =
    let a : m * up e ≡ 0 = no_factor (m * up e) c C (p.1 ∙ zero-mul (down e)) in
    let b : n * up o ≡ 0 = no_factor (n * up o) d D (q.1 ∙ zero-mul (down o)) in
    leq→le s m e t n o (rw (a, b) (flat s t))
  where
    flat : (s t : Bool) → Leq s 0 (down e) t 0 (down o)
    flat false false = omega arith
    flat false true = omega arith
    flat true false = omega arith
    flat true true = omega arith

round_zero : (f : Format) (s : Bool) (c : ℕ) → 0 < c → HasValue (round f s 0 c) s 0 c
round_zero f s c C = round_exact f s 0 c 0 0 C (pow_pos (prec f)) (pow_pos (low f + suc (emax f))) (zero-mul (2 ^ low f) ∙ sym (zero-mul c))

-- ---- `round` keeps the order of signed fractions
pub round_le : (f : Format) (s : Bool) (a c : ℕ) (t : Bool) (b d : ℕ) → 0 < c → 0 < d → Leq s a c t b d → T (le (round f s a c) (round f t b d))
round_le f false a c false b d C D h = round_mono f a c b d C D (omega arith)
round_le f false a c true b d C D h =
    let p : a ≡ 0 = no_factor a d D (omega arith) in
    let q : b ≡ 0 = no_factor b c C (omega arith) in
    rw (p, q) (zeros_le (round f false 0 c) (round f true 0 d) c d C D (round_zero f false c C) (round_zero f true d D))
round_le f true a c false b d C D h = rw (round_neg f a c) (neg_le (round f false a c) (round f false b d) (round_clear f a c) (round_clear f b d))
round_le f true a c true b d C D h = rw (round_neg f a c, round_neg f b d) (neg_anti (round f false b d) (round f false a c) (round_mono f b d a c D C (omega arith)))
