-- The law that characterises `sqrt`: any other value of binary64 lies beyond the root from it. Of the two, R and c units of 2 ^ -1074, the middle (R + c) / 2 is above the root where c is above R, and below it where c is below R; both are said squared, and times 4. Assumes nothing.
use Rattle.std.proofs.Common.{◌≡◌, ℕ, suc, ◌+◌, ◌-◌, ◌*◌, ◌/◌, ◌^◌, ◌<◌, ◌≤◌, false, T, ◌⊎◌, sym, ap, ◌∙◌, subst, inl, inr, le_trans, le_of_eq, le_refl, lt_of_lt_of_le, lt_of_le_of_lt, le_of_lt, add-le-add, mul-le-mul_right, mul_assoc, add-mul, mul-le-mul, lt_of_mul-lt-mul_right, mul-le-mul_left, mul-lt-mul_of_pos_right, not-le_of_lt, arith, pow_pos, pow_mono, pow-add}
use native.Mathlib.Nat.{mul-mul-mul_comm}
use native.Mathlib.Decide.{dec_le}
use lib.Ieee.{Float, binary64, fits, units}
use lib.Ieee.Exact.{HasValue}
use Rattle.elementary.specs.Root.{sq, whole_root, near_root, sqrt}
use Rattle.elementary.specs.Inner.Parts.{Near}
use Rattle.elementary.proofs.root.Digits.{square_sum}
use Rattle.elementary.proofs.root.Roots.{whole_root_lem, square_above_four, square_below_four}
use Rattle.elementary.proofs.parts.Values.{value, unit_fits}
use Rattle.elementary.proofs.parts.Digits.{digits, scaled_of}
use Rattle.elementary.proofs.root.Scaled.{taken, same, taken_in, scaled_place, scaled_root}
use Rattle.elementary.proofs.root.Cases.{sqrt_of_value}
use Rattle.elementary.proofs.root.Settles.{guess_near, next_near}

-- ---- whole numbers

-- every `x` above zero has a nearest root
near_exists : (x : ℕ) → 0 < x → (g : ℕ) × Near x g
near_exists x p = go (dec_le x (r * r + r))
  where
    r : ℕ
    r = whole_root x

    w : (r * r ≤ x) × (x < r * r + (r * 1 + r * 1) + 1 * 1)
    w = let k = whole_root_lem x in (k.0, lt_of_lt_of_le k.1 (le_of_eq (ap (λ (z : ℕ). z * z) (next (whole_root x)) ∙ square_sum (whole_root x) 1)))
      where
        next : (z : ℕ) → suc z ≡ z + 1
        next z = omega arith

    go : Dec (x ≤ r * r + r) → (g : ℕ) × Near x g
    go (yes l) = (r, guess_near x r (x - r * r) p (omega (arith, w.0)) (omega arith))
    go (no f) = (r + 1, next_near x r (x - r * r) (omega (arith, w.0)) (omega (arith, f, w.0)) (omega (arith, w.1)))

module _ (n x k g : ℕ) (e : n ≡ x * (2 ^ k * 2 ^ k)) (v : Near x g) where
  -- a sum of at least 2g + 1 steps of 2 ^ k is above twice the root, and one of at most 2g - 1 below it
  beyond : (s : ℕ) → (g + g + 1) * 2 ^ k ≤ s → 4 * n < sq s
  beyond s h =
      let a : 4 * x < (g + g + 1) * (g + g + 1) = omega (arith, square_sum (g + g) 1, square_sum g g, v.1) in
      lt_of_lt_of_le (square_above_four n x k e (g + g + 1) a) (mul-le-mul h h)

  within : (s d : ℕ) → g ≡ d + 1 → s ≤ (d + d + 1) * 2 ^ k → sq s < 4 * n
  within s d w h =
      let q : g * g ≡ d * d + (d * 1 + d * 1) + 1 * 1 = ap (λ (z : ℕ). z * z) w ∙ square_sum d 1 in
      let a : (d + d + 1) * (d + d + 1) < 4 * x = omega (arith, square_sum (d + d) 1, square_sum d d, q, v.0, w) in
      lt_of_le_of_lt (mul-le-mul h h) (square_below_four n x k e (d + d + 1) a)

-- q * 2 ^ j with a q of at most 53 digits either is a multiple of 2 ^ k, or is below 2 ^ 52 * 2 ^ k
multiple : (c q j k : ℕ) → q < 2 ^ 53 → c ≡ q * 2 ^ j → ((d : ℕ) × (c ≡ d * 2 ^ k)) ⊎ (c < 2 ^ 52 * 2 ^ k)
multiple c q j k h e = go (dec_le k j)
  where
    go : Dec (k ≤ j) → ((d : ℕ) × (c ≡ d * 2 ^ k)) ⊎ (c < 2 ^ 52 * 2 ^ k)
    go (yes l) =
        let w : j ≡ j - k + k = omega arith in
        inl (q * 2 ^ (j - k), e ∙ ap (λ (z : ℕ). q * 2 ^ z) w ∙ ap (λ (z : ℕ). q * z) (pow-add 2 (j - k) k) ∙ sym (mul_assoc q (2 ^ (j - k)) (2 ^ k)))
    go (no f) =
        let l : 53 + j ≤ 52 + k = omega (arith, f) in
        inr (lt_of_le_of_lt (le_of_eq e)
        (lt_of_lt_of_le (mul-lt-mul_of_pos_right h (pow_pos j)) (le_trans (le_of_eq (sym (pow-add 2 53 j))) (le_trans (pow_mono l) (le_of_eq (pow-add 2 52 k))))))

-- `c` lies on the far side of the root of `n` from `r`
abbrev pub Farther : ℕ → ℕ → ℕ → Type 0
Farther n r c = (r < c → 4 * n < sq (r + c)) × (c < r → sq (r + c) < 4 * n)

farther : (n x k g : ℕ) → n ≡ x * (2 ^ k * 2 ^ k) → 2 ^ 104 ≤ x → 2 ^ 52 ≤ g → Near x g → (c q j : ℕ) → q < 2 ^ 53 → c ≡ q * 2 ^ j → Farther n (g * 2 ^ k) c
farther n x k g e lo G v c q j h w = (above, below)
  where
    steps : (d : ℕ) → g * 2 ^ k + d * 2 ^ k ≡ (g + d) * 2 ^ k
    steps d = sym (add-mul g d (2 ^ k))

    above : g * 2 ^ k < c → 4 * n < sq (g * 2 ^ k + c)
    above l = elim (multiple c q j k h w) [
      | inl m ↦
          (let b : g < m.0 = lt_of_mul-lt-mul_right (2 ^ k) (lt_of_lt_of_le l (le_of_eq m.1)) in
          beyond n x k g e v (g * 2 ^ k + c) (le_trans (mul-le-mul_right (2 ^ k) (order g m.0 b)) (le_of_eq (sym (steps m.0) ∙ ap (λ (z : ℕ). g * 2 ^ k + z) (sym m.1)))))
      | inr s ↦ absurd (not-le_of_lt (lt_of_lt_of_le s (mul-le-mul_right (2 ^ k) G)) (le_of_lt l))
    ]
      where
        order : (a b : ℕ) → a < b → a + a + 1 ≤ a + b
        order a b u = omega arith

    low_case : g ≡ 2 ^ 52 → c < g * 2 ^ k → sq (g * 2 ^ k + c) < 4 * n
    low_case t l =
        let r = g * 2 ^ k in
        let z : sq r ≤ n =
        le_trans (le_of_eq (mul-mul-mul_comm g (2 ^ k) g (2 ^ k) ∙ ap (λ (u : ℕ). u * u * (2 ^ k * 2 ^ k)) t)) (le_trans (mul-le-mul_right (2 ^ k * 2 ^ k) lo) (le_of_eq (sym e))) in
        let y : (r + c) * (r + c) < (r + r) * (r + r) = strict (r + c) (r + r) (omega arith) in
        omega (arith, y, square_sum r r, z)
      where
        strict : (a b : ℕ) → a < b → a * a < b * b
        strict a b u = lt_of_le_of_lt (mul-le-mul_left a (le_of_lt u)) (mul-lt-mul_of_pos_right u (omega arith))

    below : c < g * 2 ^ k → sq (g * 2 ^ k + c) < 4 * n
    below l = go (dec_le g (2 ^ 52))
      where
        d : ℕ
        d = g - 1

        is_next : (a : ℕ) → 2 ^ 52 ≤ a → a ≡ a - 1 + 1
        is_next a u = omega arith

        order : (a b : ℕ) → a < b → b + a ≤ b - 1 + (b - 1) + 1
        order a b u = omega arith

        most : (a : ℕ) → a < g → c ≤ a * 2 ^ k → sq (g * 2 ^ k + c) < 4 * n
        most a u b =
            within n x k g e v (g * 2 ^ k + c) (g - 1) (is_next g G)
            (le_trans (add-le-add (le_refl (g * 2 ^ k)) b) (le_trans (le_of_eq (steps a)) (mul-le-mul_right (2 ^ k) (order a g u))))

        go : Dec (g ≤ 2 ^ 52) → sq (g * 2 ^ k + c) < 4 * n
        go (yes t) = low_case (omega arith) l
        go (no f) = elim (multiple c q j k h w) [
          | inl m ↦ most m.0 (lt_of_mul-lt-mul_right (2 ^ k) (lt_of_le_of_lt (le_of_eq (sym m.1)) l)) (le_of_eq m.1)
          | inr s ↦ most (2 ^ 52) (omega (arith, f)) (le_of_lt s)
        ]

-- ---- the law
-- `root` is the root of `n` smallest values: it is `count` of them, the format holds it, and any other value of the format lies beyond the root from it
pub record Correct (n : ℕ) (root : Float) : Type 0 where
  pub count : ℕ
  pub value : HasValue root false count (2 ^ 1074)
  pub held : T (fits binary64 root)
  pub closest : (y : Float) (c : ℕ) → T (fits binary64 y) → HasValue y false c (2 ^ 1074) → Farther (n * 2 ^ 1074) count c

pub correctly_rounded : (x : Float) (n : ℕ) → T (fits binary64 x) → HasValue x false n (2 ^ 1074) → 0 < n → Correct n (sqrt x)
correctly_rounded x n f h p =
    let s = scaled_of x n f h p in
    let m = s.0 in
    let z = s.1.0 in
    let S = s.1.1.0 in
    let e = s.1.1.1 in
    let t = taken_in m z S in
    let N = near_exists (taken m z * 2 ^ 52) (omega (arith, t.1)) in
    let g = N.0 in
    let k = (z - 52) / 2 in
    let pl = scaled_place m z g S N.1 in
    let is : sqrt x ≡ units binary64 false g k = sqrt_of_value x n h p ∙ ap near_root e ∙ scaled_root m z g S N.1 in
    record {
      count = g * 2 ^ k;
      value = subst (λ (v : Float). HasValue v false (g * 2 ^ k) (2 ^ 1074)) (sym is) (value g k pl.0 pl.1 pl.2);
      held = subst (λ (v : Float). T (fits binary64 v)) (sym is) (unit_fits g k pl.0 pl.1 pl.2);
      closest =
          λ y c fy hy.
          let D = digits y c fy hy in
          farther (n * 2 ^ 1074) (taken m z * 2 ^ 52) k g (e ∙ same m z S) (omega (arith, t.1)) pl.0 N.1 c D.0 D.1.0 D.1.1.0 D.1.1.1;
    }
