-- The arithmetic of a square root by its binary digits, on natural numbers. Assumes nothing.
use Rattle.std.proofs.Common.{◌≡◌, ℕ, zero, suc, ◌+◌, ◌-◌, ◌*◌, ◌/◌, ◌%◌, ◌^◌, ◌<◌, ◌≤◌, sym, refl, ap, ◌∙◌, subst, le_trans, add_assoc, lt_irrefl, mul-le-mul_right, mul_assoc, mul_comm, add-mul, add_comm, lt_of_not-le, mul-add, mul_left_comm, arith, pow_pos}
use native.Mathlib.Nat.{add_left_comm, pow-succ', lt_of_mul-lt-mul_left, mul-lt-mul_of_pos_left}
use native.Mathlib.Decide.{dec_le}
use Rattle.elementary.specs.Inner.Parts.{Near}

pub square_sum : (a b : ℕ) → (a + b) * (a + b) ≡ a * a + (a * b + a * b) + b * b
square_sum a b = simp (mul-add, add-mul, mul_comm, add_assoc, add_comm, add_left_comm) refl

-- what the loop knows: `r` is 2 ^ `c`, the weight of the last digit found, with `c` digits still to find; `q` is the root so far, and `x` the number whose root is taken
pub record Found (x c r q rest : ℕ) : Type 0 where
  pub weight : r ≡ 2 ^ c
  pub sum : 2 * (q * q) + r * rest ≡ 2 * x
  pub above : x < (q + r) * (q + r)
  pub small : q + r ≤ 2 ^ 53

weight_pos : (x c r q rest : ℕ) → Found x c r q rest → 0 < r
weight_pos x c r q rest f = omega (arith, pow_pos c, f.weight)

half_weight : (c r : ℕ) → 0 < c → r ≡ 2 ^ c → (r ≡ 2 * (r / 2)) × (r / 2 ≡ 2 ^ (c - 1))
half_weight (suc c) r h e =
    let p : r ≡ 2 * 2 ^ c = e ∙ pow-succ' 2 c in
    let d : r / 2 ≡ 2 ^ c = omega arith in
    (omega arith, d ∙ ap (λ (k : ℕ). 2 ^ k) (omega arith))
half_weight zero r h e = absurd (lt_irrefl 0 h)

spread : (q r : ℕ) → r * (4 * q + 2 * r) ≡ 4 * (q * r) + 2 * (r * r)
spread q r = mul-add r (4 * q) (2 * r) ∙ simp (mul_left_comm, mul_comm) refl

pub rest_lt : (x c r q rest : ℕ) → Found x c r q rest → rest < 4 * q + 2 * r
rest_lt x c r q rest f = lt_of_mul-lt-mul_left r (omega (arith, spread q r, square_sum q r, f.sum, f.above))

times : (h q : ℕ) → h * (2 * q + h) ≡ 2 * (q * h) + h * h
times h q = mul-add h (2 * q) h ∙ simp (mul_left_comm, mul_comm) refl

-- a turn whose digit is 1, with `d` for what is left of `rest`
yes_sum : (x q h d rest : ℕ) → 2 * (q * q) + 2 * h * rest ≡ 2 * x → rest ≡ 2 * q + h + d → 2 * ((q + h) * (q + h)) + h * (d + d) ≡ 2 * x
yes_sum x q h d rest e s =
    let k : h * rest ≡ h * (2 * q + h) + h * d = ap (λ (z : ℕ). h * z) s ∙ mul-add h (2 * q + h) d in
    omega (arith, k, times h q, square_sum q h, mul-add h d d, mul_assoc 2 h rest, e)

turn_yes : (x c r q rest : ℕ) → 0 < c → Found x c r q rest → 2 * q + r / 2 ≤ rest
    → Found x (c - 1) (r / 2) (q + r / 2) ((rest - (2 * q + r / 2)) + (rest - (2 * q + r / 2)))
turn_yes x c r q rest h f t =
    let w = half_weight c r h f.weight in
    record {
      weight = w.1;
      sum = yes_sum x q (r / 2) (rest - (2 * q + r / 2)) rest (subst (λ (z : ℕ). 2 * (q * q) + z * rest ≡ 2 * x) w.0 f.sum) (omega arith);
      above = subst (λ (z : ℕ). x < z * z) (omega (arith, w.0)) f.above;
      small = omega (arith, w.0, f.small);
    }

no_above : (x q h rest : ℕ) → 0 < h → 2 * (q * q) + 2 * h * rest ≡ 2 * x → rest < 2 * q + h → x < (q + h) * (q + h)
no_above x q h rest p e l =
    omega (arith, mul-lt-mul_of_pos_left l p, times h q, square_sum q h, mul_assoc 2 h rest, e)

turn_no : (x c r q rest : ℕ) → 0 < c → Found x c r q rest → rest < 2 * q + r / 2 → Found x (c - 1) (r / 2) q (rest + rest)
turn_no x c r q rest h f t =
    let w = half_weight c r h f.weight in
    let e : 2 * (q * q) + 2 * (r / 2) * rest ≡ 2 * x = subst (λ (z : ℕ). 2 * (q * q) + z * rest ≡ 2 * x) w.0 f.sum in
    record {
      weight = w.1;
      sum = omega (arith, e, mul_assoc 2 (r / 2) rest, mul-add (r / 2) rest rest);
      above = no_above x q (r / 2) rest (omega (arith, w.0, weight_pos x c r q rest f)) e t;
      small = omega (arith, w.0, f.small);
    }

-- a turn as the code has it: `d` is `rest - t` in 64 bits, and its highest bit says whether `t` was above `rest`
sign_yes : (d t rest : ℕ) → d < 2 ^ 64 → rest < 2 ^ 60 → (d + t) % 2 ^ 64 ≡ rest → t ≤ rest → (d ≡ rest - t) × (d / 2 ^ 63 ≡ 0)
sign_yes d t rest l h e y = let k : d ≡ rest - t = omega arith in (k, omega arith)

sign_no : (d t rest : ℕ) → d < 2 ^ 64 → t < 2 ^ 60 → (d + t) % 2 ^ 64 ≡ rest → rest < t → (d + t ≡ rest + 2 ^ 64) × (d / 2 ^ 63 ≡ 1)
sign_no d t rest l h e y = let k : d + t ≡ rest + 2 ^ 64 = omega arith in (k, omega arith)

pub sign_small : (d : ℕ) → d < 2 ^ 64 → (k : ℕ) → d / 2 ^ 63 * k ≤ k
sign_small d h k = let s : d / 2 ^ 63 ≤ 1 = omega arith in le_trans (mul-le-mul_right k s) (omega arith)

pub sign_turn : (x c r q rest d rest' : ℕ) → 0 < c → Found x c r q rest → d < 2 ^ 64 → (d + (2 * q + r / 2)) % 2 ^ 64 ≡ rest → rest' ≡ (d + d / 2 ^ 63 * (2 * q + r / 2)) % 2 ^ 64
    → Found x (c - 1) (r / 2) (q + (r / 2 - d / 2 ^ 63 * (r / 2))) (rest' + rest')
sign_turn x c r q rest d rest' h f l ed er = go (dec_le (2 * q + r / 2) rest)
  where
    t : ℕ
    t = 2 * q + r / 2

    yes_rest : (d t z : ℕ) → d < 2 ^ 64 → z ≡ (d + 0 * t) % 2 ^ 64 → z ≡ d
    yes_rest d t z l e = omega arith

    no_rest : (d t z rest : ℕ) → rest < 2 ^ 60 → d + t ≡ rest + 2 ^ 64 → z ≡ (d + 1 * t) % 2 ^ 64 → z ≡ rest
    no_rest d t z rest l k e = omega arith

    b : rest < 2 ^ 60
    b = omega (arith, rest_lt x c r q rest f, f.small)

    go : Dec (2 * q + r / 2 ≤ rest) → Found x (c - 1) (r / 2) (q + (r / 2 - d / 2 ^ 63 * (r / 2))) (rest' + rest')
    go (yes y) =
        let s = sign_yes d t rest l b ed y in
        let z : rest' ≡ rest - t = yes_rest d t rest' l (subst (λ (k : ℕ). rest' ≡ (d + k * t) % 2 ^ 64) s.1 er) ∙ s.0 in
        let w : q + (r / 2 - d / 2 ^ 63 * (r / 2)) ≡ q + r / 2 = ap (λ (k : ℕ). q + (r / 2 - k * (r / 2))) s.1 ∙ omega arith in
        subst (λ (k : ℕ). Found x (c - 1) (r / 2) k (rest' + rest')) (sym w) (subst (λ (k : ℕ). Found x (c - 1) (r / 2) (q + r / 2) (k + k)) (sym z) (turn_yes x c r q rest h f y))
    go (no n) =
        let y : rest < t = lt_of_not-le n in
        let s = sign_no d t rest l (omega (arith, f.small)) ed y in
        let z : rest' ≡ rest = no_rest d t rest' rest b s.0 (subst (λ (k : ℕ). rest' ≡ (d + k * t) % 2 ^ 64) s.1 er) in
        let w : q + (r / 2 - d / 2 ^ 63 * (r / 2)) ≡ q = ap (λ (k : ℕ). q + (r / 2 - k * (r / 2))) s.1 ∙ omega arith in
        subst (λ (k : ℕ). Found x (c - 1) (r / 2) k (rest' + rest')) (sym w) (subst (λ (k : ℕ). Found x (c - 1) (r / 2) q (k + k)) (sym z) (turn_no x c r q rest h f y))

-- the same facts with another count of the digits that are left, where the two counts are equal
pub with_left : {x c d r q rest : ℕ} → d ≡ c → Found x c r q rest → Found x d r q rest
with_left {x} {c} {d} {r} {q} {rest} e f = subst (λ (z : ℕ). Found x z r q rest) (sym e) f

-- after the last turn `r` is 1
last : (x r q rest : ℕ) → Found x 0 r q rest → (2 * (q * q) + rest ≡ 2 * x) × (x < q * q + 2 * q + 1)
last x r q rest f =
    let s : 2 * (q * q) + 1 * rest ≡ 2 * x = subst (λ (z : ℕ). 2 * (q * q) + z * rest ≡ 2 * x) f.weight f.sum in
    let a : x < (q + 1) * (q + 1) = subst (λ (z : ℕ). x < (q + z) * (q + z)) f.weight f.above in
    (omega arith, omega (arith, square_sum q 1))

pub near_down : (x r q rest : ℕ) → 0 < x → Found x 0 r q rest → rest ≤ 2 * q → Near x q
near_down x r zero rest p f l = (omega arith, omega (arith, last x r zero rest f))
near_down x r (suc q) rest p f l = let k = last x r (suc q) rest f in (omega (arith, k.0), omega (arith, k.0))

pub near_up : (x r q rest : ℕ) → Found x 0 r q rest → 2 * q < rest → Near x (q + 1)
near_up x r q rest f l = let k = last x r q rest f in (omega (arith, k.0, square_sum q 1), omega (arith, k.1, square_sum q 1))

-- before the first turn
pub found_first : (m : ℕ) → m < 2 ^ 54 → Found (m * 2 ^ 52) 53 0x20_0000_0000_0000 0 m
found_first m h = record { weight = refl; sum = omega arith; above = omega arith; small = omega arith }
