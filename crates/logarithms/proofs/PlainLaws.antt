-- The logarithm of a plain value from its bit pattern: one sum over the bits says whether the significand is halved. Assumes nothing.
use Prim.Native.Nat.{ℕ, ◌+◌, ◌*◌, ◌/◌, ◌%◌, ◌^◌, ◌≤◌, ◌<◌}
use mathlib.Core.Path.{◌≡◌, refl, sym, ap, ap₂, subst, ◌∙◌}
use mathlib.Core.Bool.{Bool, true, false, cond, not, true≢false}
use mathlib.Core.Logic.{inl, inr}
use native.Mathlib.Nat.{le_of_lt}
use native.Mathlib.Omega.{arith}
use native.Mathlib.Decide.{dec_le}
use borrow.Author.Tests.{ltb-true, lt-ltb, le-ltb}
use lib.Dec.{T, ltb, lit≤}
use lib.IntN.{ℤ, pos, ◌+ℤ◌, ◌-ℤ◌}
use lib.Pow.{pow_pos, pow-add}
use lib.Ieee.{Float, nan, inf, fin, binary64, up, down, round, units, fits, is_nan, of_bits, to_bits, of_int, lt, div}
use lib.Ieee.Fits.{round-fits, down_pos, and_l, and_r}
use lib.Ieee.Exact.{HasValue, round_exact}
use lib.Ieee.Scale.{round_same}
use lib.Ieee.Positive.{positive}
use lib.Ieee.Bits.{is_true}
use Rattle.floats.specs.Numbers.{◌*ᶠ◌, ◌/ᶠ◌, +0, of_whole, ratio}
use Rattle.floats.proofs.Order.Laws.{lt→le, lt_then_le}
use Rattle.floats.proofs.Order.Zero.{above_zero}
use Rattle.floats.proofs.Order.Patterns as Patterns
use Rattle.floats.proofs.Order.Patterns.{unsigned, pattern_order}
use Rattle.elementary.specs.Inner.Parts.{count_of}
use Rattle.elementary.specs.Logarithm.{series, last_step, ln_of, ln_scaled, ln}
use Rattle.elementary.proofs.Laws.{Pattern, below, value, unit_fits, same_value, placed_is, count_high, pattern_below, less_is_no_nan, sig, exp, high_scaled, high_root, one_more, ln_of_value, ln_of_parts}
use Rattle.logarithms.specs.Inner.Stages.{plain, exponent_of, quotient_by, quotient_of, Begun}

-- ---- half of a significand is exact
units_of : (g k : ℕ) → 2 ^ 52 ≤ g → g < 2 ^ 53 → k ≤ 2044 → round binary64 false (g * 2 ^ k) (2 ^ 1074) ≡ units binary64 false g k
units_of g k lo hi small =
    let h : g ≤ 2 ^ 53 = le_of_lt hi in
    same_value (round binary64 false (g * 2 ^ k) (2 ^ 1074)) (units binary64 false g k) (g * 2 ^ k)
    (round-fits binary64 false (g * 2 ^ k) (2 ^ 1074)) (unit_fits g k lo h small)
    (round_exact binary64 false (g * 2 ^ k) (2 ^ 1074) g k (pow_pos 1074) hi (below g k lo h small) refl)
    (value g k lo h small)

halves : (x : Float) (n w : ℕ) → 0 < w → HasValue x false (2 * n) w → div binary64 x (fin false 1 (pos 1)) ≡ round binary64 false n w
unfolding div
halves nan n w p h = absurd h
halves (inf s) n w p h = absurd h
halves (fin true m e) n w p h = absurd (true≢false h.0)
halves (fin false m e) n w p h = round_same binary64 false (m * up e * 1) (1 * 2 * down e) n w (twice (down e) (down_pos e)) p (cross (m * up e) (down e) h.1)
  where
    twice : (d : ℕ) → 0 < d → 0 < 1 * 2 * d
    twice d q = omega arith

    cross : (a d : ℕ) → a * w ≡ 2 * n * d → a * 1 * w ≡ n * (1 * 2 * d)
    cross a d q = omega (arith, q)

double : (g : ℕ) → g * 2 ^ 1022 ≡ 2 * (g * 2 ^ 1021)
double g = ap (λ (z : ℕ). g * z) (pow-add 2 1 1021) ∙ twice (2 ^ 1021)
  where
    twice : (z : ℕ) → g * (2 ^ 1 * z) ≡ 2 * (g * z)
    twice z = omega arith

half : (g : ℕ) → 2 ^ 52 ≤ g → g < 2 ^ 53 → units binary64 false g 1022 /ᶠ of_whole 2 ≡ units binary64 false g 1021
unfolding of_int
half g lo hi =
    halves (units binary64 false g 1022) (g * 2 ^ 1021) (2 ^ 1074) (pow_pos 1074)
    (subst (λ (z : ℕ). HasValue (units binary64 false g 1022) false z (2 ^ 1074)) (double g) (value g 1022 lo (le_of_lt hi) (lit≤ tt)))
    ∙ units_of g 1021 lo hi (lit≤ tt)

-- ---- the limit, by bit patterns
pub in_bits : (p q : ℕ) → p ≤ 0x7ff0_0000_0000_0000 → q ≤ 0x7ff0_0000_0000_0000 → lt (of_bits binary64 p) (of_bits binary64 q) ≡ ltb p q
in_bits p q h k =
    let a = Patterns.pattern_of p h in
    let b = Patterns.pattern_of q k in
    pattern_order (of_bits binary64 p) (of_bits binary64 q) a.clear b.clear a.held b.held ∙ ap₂ ltb a.back b.back

limit : ratio 14142135623730951 (10 ^ 16) ≡ of_bits binary64 0x3ff6_a09e_667f_3bcd
unfolding ratio of_bits
limit = refl

above_limit : (g : ℕ) → 2 ^ 52 ≤ g → g < 2 ^ 53 → lt (ratio 14142135623730951 (10 ^ 16)) (units binary64 false g 1022) ≡ ltb 0x3ff6_a09e_667f_3bcd (1022 * 2 ^ 52 + g)
above_limit g lo hi =
    ap₂ lt limit (sym (placed_is g 1022 lo (le_of_lt hi) (lit≤ tt)))
    ∙ in_bits 0x3ff6_a09e_667f_3bcd (1022 * 2 ^ 52 + g) (lit≤ tt) (omega arith)

-- ---- the sum over the bits
module _ (b : ℕ) (low : 2 ^ 52 ≤ b) (high : b < 2047 * 2 ^ 52) where
  abbrev sum : ℕ
  sum = b + 0x0009_5f61_9980_c432

  abbrev M : Float
  M = units binary64 false (sig b) 1022

  placed : (k p : ℕ) → k ≤ 1022 → p ≡ k * 2 ^ 52 + sig b → units binary64 false (sig b) k ≡ of_bits binary64 p
  placed k p h e = sym (ap (of_bits binary64) e ∙ placed_is (sig b) k (omega arith) (omega arith) (omega arith))

  by_test : (t : Bool) → ltb 0x3ff6_a09e_667f_3bcd (1022 * 2 ^ 52 + sig b) ≡ t
      → ln_scaled M (pos (exp b) -ℤ pos 2096) ≡ ln_of (cond t (pos (exp b) -ℤ pos 2096 +ℤ pos 1) (pos (exp b) -ℤ pos 2096)) (quotient_by (cond t (M /ᶠ of_whole 2) M))
  unfolding ln_scaled
  by_test t e =
      ap (λ (t : Bool). ln_of (cond t (pos (exp b) -ℤ pos 2096 +ℤ pos 1) (pos (exp b) -ℤ pos 2096)) (quotient_by (cond t (M /ᶠ of_whole 2) M)))
      (above_limit (sig b) (omega arith) (omega arith) ∙ e)

  by_sum : ln_scaled M (pos (exp b) -ℤ pos 2096)
      ≡ ln_of (pos (sum / 2 ^ 52 + 1073) -ℤ pos 2096) (quotient_by (of_bits binary64 (sum % 2 ^ 52 + 0x3fe6_a09e_667f_3bce)))
  by_sum = go (dec_le 0x6_a09e_667f_3bce (b % 2 ^ 52))
    where
      go : Dec (0x6_a09e_667f_3bce ≤ b % 2 ^ 52) → ln_scaled M (pos (exp b) -ℤ pos 2096)
          ≡ ln_of (pos (sum / 2 ^ 52 + 1073) -ℤ pos 2096) (quotient_by (of_bits binary64 (sum % 2 ^ 52 + 0x3fe6_a09e_667f_3bce)))
      go (yes l) =
          let e : exp b + 1 ≡ sum / 2 ^ 52 + 1073 = omega (arith, l) in
          let p : sum % 2 ^ 52 + 0x3fe6_a09e_667f_3bce ≡ 1021 * 2 ^ 52 + sig b = omega (arith, l) in
          by_test true (lt-ltb 0x3ff6_a09e_667f_3bcd (1022 * 2 ^ 52 + sig b) (omega (arith, l)))
          ∙ ap₂ (λ (z : ℤ) (m : Float). ln_of z (quotient_by m))
          (sym (one_more (exp b)) ∙ ap (λ (z : ℕ). pos z -ℤ pos 2096) e)
          (half (sig b) (omega arith) (omega arith) ∙ placed 1021 (sum % 2 ^ 52 + 0x3fe6_a09e_667f_3bce) (lit≤ tt) p)
      go (no f) =
          let l : b % 2 ^ 52 < 0x6_a09e_667f_3bce = omega (arith, f) in
          let e : exp b ≡ sum / 2 ^ 52 + 1073 = omega (arith, l) in
          let p : sum % 2 ^ 52 + 0x3fe6_a09e_667f_3bce ≡ 1022 * 2 ^ 52 + sig b = omega (arith, l) in
          by_test false (le-ltb 0x3ff6_a09e_667f_3bcd (1022 * 2 ^ 52 + sig b) (omega (arith, l)))
          ∙ ap₂ (λ (z : ℤ) (m : Float). ln_of z (quotient_by m))
          (ap (λ (z : ℕ). pos z -ℤ pos 2096) e)
          (placed 1022 (sum % 2 ^ 52 + 0x3fe6_a09e_667f_3bce) (lit≤ tt) p)

-- ---- a plain value
-- the largest subnormal value is above zero
zero_first : T (lt +0 (of_bits binary64 0x000f_ffff_ffff_ffff))
unfolding lt of_bits
zero_first = tt

unsigned_of : (x : Float) → lt +0 x ≡ true → unsigned x ≡ true
unfolding unsigned
unsigned_of x h = elim (above_zero x h) [ inl p ↦ go x p | inr e ↦ ap unsigned e ]
  where
    go : (x : Float) → T (positive x) → unsigned x ≡ true
    go nan p = absurd p
    go (inf s) p = absurd p
    go (fin true m e) p = absurd p
    go (fin false m e) p = refl

module _ (v : Float) (f : T (fits binary64 v)) (h : plain v ≡ true) where
  both : T (lt (of_bits binary64 0x000f_ffff_ffff_ffff) v) × T (lt v (of_bits binary64 0x7ff0_0000_0000_0000))
  unfolding plain
  both =
      let t : T (plain v) = subst T (sym h) tt in
      (and_l (lt (of_bits binary64 0x000f_ffff_ffff_ffff) v) (lt v (of_bits binary64 0x7ff0_0000_0000_0000)) t, and_r (lt (of_bits binary64 0x000f_ffff_ffff_ffff) v) (lt v (of_bits binary64 0x7ff0_0000_0000_0000)) t)

  above : lt +0 v ≡ true
  above = is_true (lt +0 v) (lt_then_le +0 (of_bits binary64 0x000f_ffff_ffff_ffff) v zero_first (lt→le (of_bits binary64 0x000f_ffff_ffff_ffff) v both.0))

  abbrev pattern : ℕ
  pattern = to_bits binary64 v

  pub low_bound : 2 ^ 52 ≤ pattern
  low_bound =
      let a = Patterns.pattern_of 0x000f_ffff_ffff_ffff (lit≤ tt) in
      let e = pattern_order (of_bits binary64 0x000f_ffff_ffff_ffff) v a.clear (unsigned_of v above) a.held f in
      let l = ltb-true _ _ (sym e ∙ is_true _ both.0) in
      subst (λ (z : ℕ). z < pattern) a.back l

  pub high_bound : pattern < 2047 * 2 ^ 52
  high_bound =
      let a = Patterns.pattern_of 0x7ff0_0000_0000_0000 (lit≤ tt) in
      let e = pattern_order v (of_bits binary64 0x7ff0_0000_0000_0000) (unsigned_of v above) a.clear f a.held in
      let l = ltb-true _ _ (sym e ∙ is_true _ both.1) in
      subst (λ (z : ℕ). pattern < z) a.back l

  pub plain_number : T (not (is_nan v))
  plain_number = less_is_no_nan v (of_bits binary64 0x7ff0_0000_0000_0000) (is_true _ both.1)

  -- the logarithm of `v` from its exponent and its quotient
  pub ln_plain : last_step (exponent_of v) (quotient_of v) (series 10 (quotient_of v *ᶠ quotient_of v) (of_whole 1 /ᶠ of_whole 21)) ≡ ln v
  unfolding ln_of exponent_of quotient_of
  ln_plain =
      let w : Pattern v pattern = pattern_below v f above high_bound in
      sym (ln_of_value v (count_of pattern) w.count w.counted
      ∙ ln_of_parts (count_of pattern) (sig pattern) (exp pattern) (high_scaled pattern low_bound high_bound)
      (sym (ap (λ (z : ℕ). z * 2 ^ 1074) (count_high pattern low_bound) ∙ high_root pattern low_bound))
      ∙ by_sum pattern low_bound high_bound)

  -- the same as `joined` has it, with `s` for the quotient and `P` for the sum
  pub ln_joined : (s P : Float) → s ≡ quotient_of v → Begun 0 s P → last_step (exponent_of v) s P ≡ ln v
  unfolding Begun series
  ln_joined s P e g =
      ap (last_step (exponent_of v) s) g
      ∙ ap (λ (z : Float). last_step (exponent_of v) z (series 10 (z *ᶠ z) (of_whole 1 /ᶠ of_whole 21))) e
      ∙ ln_plain
