-- `near_root n` from an integer root: for n = x * 4 ^ k with an x of 105 or 106 digits, and a g that is nearest to √x, it is g * 2 ^ k units. Assumes nothing.
use Rattle.std.proofs.Common.{◌≡◌, ℕ, zero, suc, ◌+◌, ◌-◌, ◌*◌, ◌/◌, ◌^◌, ◌<◌, ◌≤◌, Bool, true, false, cond, not, T, leb, sym, refl, ap, ◌∙◌, subst, zero-le, le_trans, le_of_eq, lt_of_lt_of_le, le_of_suc-le-suc, lt_of_le_of_lt, le_of_lt, lt_irrefl, mul-le-mul_right, mul_assoc, mul-le-mul, mul-lt-mul_of_pos_right, pow-suc, lt_of_not-le, zero-add, mul-add, not-le_of_lt, add-one, arith, le→leb, eqb→eq, pow_pos, pow_mono, pow-add, leb-false, leb-true}
use Prim.Native.Nat.{compare, Ordering}
use native.Mathlib.Nat.{mul-mul-mul_comm, div-eq_of_lt-le}
use native.Mathlib.Decide.{dec_le}
use lib.Dec.{is_le, compare_is_eq}
use lib.Arith.{lt→nleb}
use lib.Ieee.{Float, binary64, size, nearest, units}
use lib.Ieee.Digits.{size-lt}
use Rattle.elementary.specs.Root.{sq, root_from, whole_root, near_root}
use Rattle.elementary.specs.Inner.Parts.{Near}
use Rattle.elementary.proofs.parts.Values.{size_is}
use Rattle.elementary.proofs.root.Digits.{square_sum}

-- ---- the whole root is the largest number whose square is at most n

root_low : (k a n : ℕ) → a * a ≤ n → root_from k a n * root_from k a n ≤ n
unfolding root_from
root_low zero a n h = h
root_low (suc k) a n h = root_low k (cond (leb (b * b) n) b a) n (go (leb (b * b) n) refl)
  where
    b : ℕ
    b = a + 2 ^ k

    go : (t : Bool) → leb (b * b) n ≡ t → cond t b a * cond t b a ≤ n
    go true e = leb-true _ _ e
    go false e = h

twice : (a k : ℕ) → a + 2 ^ suc k ≡ a + 2 ^ k + 2 ^ k
twice a k = omega (arith, pow-suc 2 k)

root_high : (k a n : ℕ) → n < (a + 2 ^ k) * (a + 2 ^ k) → n < suc (root_from k a n) * suc (root_from k a n)
unfolding root_from
root_high zero a n h = subst (λ (x : ℕ). n < x * x) (add-one a) h
root_high (suc k) a n h = root_high k (cond (leb (b * b) n) b a) n (go (leb (b * b) n) refl)
  where
    b : ℕ
    b = a + 2 ^ k

    go : (t : Bool) → leb (b * b) n ≡ t → n < (cond t b a + 2 ^ k) * (cond t b a + 2 ^ k)
    go true e = subst (λ (x : ℕ). n < x * x) (twice a k) h
    go false e = leb-false _ _ e

room : (n : ℕ) → n < (0 + 2 ^ (size n / 2 + 1)) * (0 + 2 ^ (size n / 2 + 1))
room n =
    let h = size n / 2 + 1 in
    let d : size n ≤ h + h = omega arith in
    subst (λ (x : ℕ). n < x * x) (sym (zero-add (2 ^ h))) (lt_of_lt_of_le (size-lt n) (le_trans (pow_mono d) (le_of_eq (pow-add 2 h h))))

pub whole_root_lem : (n : ℕ) → (whole_root n * whole_root n ≤ n) × (n < suc (whole_root n) * suc (whole_root n))
unfolding whole_root
whole_root_lem n = (root_low (size n / 2 + 1) 0 n zero-le, root_high (size n / 2 + 1) 0 n (room n))

pub sq_lt : (a b : ℕ) → a * a < b * b → a < b
sq_lt a b h = lt_of_not-le (λ (g : b ≤ a). not-le_of_lt h (mul-le-mul g g))

root_between : (n a b : ℕ) → a * a ≤ n → n < b * b → (a ≤ whole_root n) × (whole_root n < b)
root_between n a b l h =
    let w = whole_root_lem n in
    (le_of_suc-le-suc (sq_lt a (suc (whole_root n)) (lt_of_le_of_lt l w.1)), sq_lt (whole_root n) b (lt_of_le_of_lt w.0 h))

-- ---- comparisons

cmp_lt : (a b : ℕ) → a < b → compare a b ≡ Ordering.lt
cmp_lt a b h = go (compare a b) (le→leb a b (le_of_lt h)) (eqb→eq a b)
  where
    go : (o : Ordering) → T (is_le o) → (T (compare_is_eq o) → a ≡ b) → o ≡ Ordering.lt
    go Ordering.lt l e = refl
    go Ordering.eq l e = absurd (lt_irrefl a (subst (λ (z : ℕ). a < z) (sym (e tt)) h))
    go Ordering.gt l e = absurd l

cmp_gt : (a b : ℕ) → b < a → compare a b ≡ Ordering.gt
cmp_gt a b h = go (compare a b) (lt→nleb a b h)
  where
    go : (o : Ordering) → T (not (is_le o)) → o ≡ Ordering.gt
    go Ordering.lt l = absurd l
    go Ordering.eq l = absurd l
    go Ordering.gt l = refl

-- ---- `near_root`, from the digits that are kept

near_root_is : (n : ℕ) → near_root n ≡ (let r = whole_root n in let k = size r - 53 in let q = r / 2 ^ k in units binary64 false (nearest q (compare (4 * n) (sq ((2 * q + 1) * 2 ^ k)))) k)
unfolding near_root
near_root_is n = refl

abbrev shape : ℕ → ℕ → ℕ → Float
shape n q k = units binary64 false (nearest q (compare (4 * n) (sq ((2 * q + 1) * 2 ^ k)))) k

kept : (n k q : ℕ) → 2 ^ 52 ≤ q → q < 2 ^ 53 → sq (q * 2 ^ k) ≤ n → n < sq (suc q * 2 ^ k) → near_root n ≡ shape n q k
kept n k q a b l h =
    let r = whole_root n in
    let w = root_between n (q * 2 ^ k) (suc q * 2 ^ k) l h in
    let s : size r ≡ suc (52 + k) =
    size_is r (52 + k) (le_trans (le_of_eq (pow-add 2 52 k)) (le_trans (mul-le-mul_right (2 ^ k) a) w.0))
    (lt_of_lt_of_le w.1 (le_trans (mul-le-mul_right (2 ^ k) b) (le_of_eq (sym (pow-add 2 53 k) ∙ ap (λ (z : ℕ). 2 ^ z) (omega arith))))) in
    let d : size r - 53 ≡ k = omega arith in
    let v : r / 2 ^ k ≡ q = div-eq_of_lt-le (2 ^ k) w.0 (subst (λ (z : ℕ). r < z * 2 ^ k) (sym (add-one q)) w.1) in
    near_root_is n ∙ ap (λ (z : ℕ). shape n (r / 2 ^ z) z) d ∙ ap (λ (z : ℕ). shape n z k) v

odd_square : (q : ℕ) → (2 * q + 1) * (2 * q + 1) ≡ 4 * (q * q) + 4 * q + 1
odd_square q = square_sum (2 * q) 1 ∙ omega (arith, mul-mul-mul_comm 2 q 2 q)

-- ---- squares of multiples of 2 ^ k against n = x * 4 ^ k, by squares against x
module _ (n x k : ℕ) (e : n ≡ x * (2 ^ k * 2 ^ k)) where
  abbrev P : ℕ
  P = 2 ^ k * 2 ^ k

  P_pos : 0 < P
  P_pos = le_trans (pow_pos (k + k)) (le_of_eq (pow-add 2 k k))

  square_of : (a : ℕ) → sq (a * 2 ^ k) ≡ a * a * P
  square_of a = mul-mul-mul_comm a (2 ^ k) a (2 ^ k)

  four : 4 * n ≡ 4 * x * P
  four = ap (λ (z : ℕ). 4 * z) e ∙ sym (mul_assoc 4 x P)

  pub square_at_most : (a : ℕ) → a * a ≤ x → sq (a * 2 ^ k) ≤ n
  square_at_most a h = le_trans (le_of_eq (square_of a)) (le_trans (mul-le-mul_right P h) (le_of_eq (sym e)))

  pub square_above : (a : ℕ) → x < a * a → n < sq (a * 2 ^ k)
  square_above a h = lt_of_le_of_lt (le_of_eq e) (lt_of_lt_of_le (mul-lt-mul_of_pos_right h P_pos) (le_of_eq (sym (square_of a))))

  pub square_above_four : (a : ℕ) → 4 * x < a * a → 4 * n < sq (a * 2 ^ k)
  square_above_four a h = lt_of_le_of_lt (le_of_eq four) (lt_of_lt_of_le (mul-lt-mul_of_pos_right h P_pos) (le_of_eq (sym (square_of a))))

  pub square_below_four : (a : ℕ) → a * a < 4 * x → sq (a * 2 ^ k) < 4 * n
  square_below_four a h = lt_of_le_of_lt (le_of_eq (square_of a)) (lt_of_lt_of_le (mul-lt-mul_of_pos_right h P_pos) (le_of_eq (sym four)))

module _ (n x k : ℕ) (e : n ≡ x * (2 ^ k * 2 ^ k)) (lo : 2 ^ 104 ≤ x) (hi : x < 2 ^ 106) where
  at_floor : (q : ℕ) → q * q ≤ x → x < suc q * suc q → near_root n ≡ shape n q k
  at_floor q l h =
      kept n k q
      (le_of_suc-le-suc (sq_lt (2 ^ 52) (suc q) (lt_of_le_of_lt lo h)))
      (sq_lt q (2 ^ 53) (lt_of_le_of_lt l hi))
      (square_at_most n x k e q l)
      (square_above n x k e (suc q) h)

  down_case : (q : ℕ) → x ≤ q * q + q → compare (4 * n) (sq ((2 * q + 1) * 2 ^ k)) ≡ Ordering.lt
  down_case q h = cmp_lt _ _ (square_above_four n x k e (2 * q + 1) (omega (arith, odd_square q)))

  up_case : (q : ℕ) → q * q + q < x → compare (4 * n) (sq ((2 * q + 1) * 2 ^ k)) ≡ Ordering.gt
  up_case q h = cmp_gt _ _ (square_below_four n x k e (2 * q + 1) (omega (arith, odd_square q)))

  suc_square : (q : ℕ) → suc q * suc q ≡ q * q + 2 * q + 1
  suc_square q = ap (λ (z : ℕ). z * z) (sym (add-one q)) ∙ square_sum q 1 ∙ omega arith

  pub near_root_lem : (g : ℕ) → Near x g → near_root n ≡ units binary64 false g k
  near_root_lem g v = go g v (dec_le (g * g) x)
    where
      go : (h : ℕ) → Near x h → Dec (h * h ≤ x) → near_root n ≡ units binary64 false h k
      go h v (yes l) =
          at_floor h l (omega (arith, suc_square h, v.1)) ∙ ap (λ (o : Ordering). units binary64 false (nearest h o) k) (down_case h v.1)
      go zero v (no f) = absurd (f zero-le)
      go (suc q) v (no f) =
          let l : x < suc q * suc q = lt_of_not-le f in
          let s = suc_square q in
          at_floor q (omega (arith, s, v.0)) l ∙ ap (λ (o : Ordering). units binary64 false (nearest q o) k) (up_case q (omega (arith, s, v.0)))

-- ---- a nearest root of an x of 105 or 106 digits has 53 digits, or is 2 ^ 53

times_next : (g : ℕ) → g * (g + 1) ≡ g * g + g
times_next g = mul-add g g 1 ∙ omega arith

pub near_bounds : (x g : ℕ) → 2 ^ 104 ≤ x → x < 2 ^ 106 → Near x g → (2 ^ 52 ≤ g) × (g ≤ 2 ^ 53)
near_bounds x g lo hi v = (low, high g v)
  where
    low : 2 ^ 52 ≤ g
    low = le_of_suc-le-suc (lt_of_not-le (λ (f : suc g ≤ 2 ^ 52).
        let p : g + 1 ≤ 2 ^ 52 = omega arith in
        let m : g * (g + 1) ≤ (2 ^ 52 - 1) * 2 ^ 52 = mul-le-mul {n₁ = g} {m₁ = g + 1} {n₂ = 2 ^ 52 - 1} {m₂ = 2 ^ 52} (omega arith) p in
        omega (arith, m, times_next g, v.1)))

    high : (h : ℕ) → Near x h → h ≤ 2 ^ 53
    high zero w = zero-le
    high (suc h) w = le_of_suc-le-suc (lt_of_not-le (λ (f : suc (2 ^ 53) ≤ suc h).
        let m : 2 ^ 53 * (2 ^ 53 + 1) ≤ h * (h + 1) = mul-le-mul {n₁ = 2 ^ 53} {m₁ = 2 ^ 53 + 1} {n₂ = h} {m₂ = h + 1} (omega arith) (omega arith) in
        omega (arith, m, w.0, times_next h, mul-add (suc h) h 1, ap (λ (z : ℕ). z * z) (sym (add-one h)), square_sum h 1)))
