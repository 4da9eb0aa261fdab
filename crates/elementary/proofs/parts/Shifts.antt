-- A significand of 53 digits and its power of two: a subnormal value doubled until it has them, and the fields of any other. Assumes nothing.
use Rattle.std.proofs.Common.{◌≡◌, ℕ, ◌+◌, ◌-◌, ◌*◌, ◌/◌, ◌%◌, ◌^◌, ◌<◌, ◌≤◌, sym, ap, ◌∙◌, mul-le-mul_right, mul_assoc, lt_of_not-le, arith, pow_mono, pow-add}
use Rattle.elementary.specs.Inner.Parts.{Scaled}

-- ---- a subnormal value, doubled j times

pub few : (t m j : ℕ) → 0 < t → m ≡ t * 2 ^ j → m < 2 ^ 52 → j < 52
few t m j p e h = lt_of_not-le (λ (f : 52 ≤ j).
    let a : 2 ^ 52 ≤ 2 ^ j = pow_mono f in
    let b : 1 * 2 ^ j ≤ t * 2 ^ j = mul-le-mul_right (2 ^ j) p in
    omega (arith, a, b, e))

pub twice_more : (t m j : ℕ) → m ≡ t * 2 ^ j → m + m ≡ t * 2 ^ (j + 1)
twice_more t m j e =
    ap (λ (z : ℕ). z + z) e ∙ omega (arith, mul_assoc t (2 ^ j) 2) ∙ ap (λ (z : ℕ). t * z) (sym (pow-add 2 j 1))

pub shifted : (t m j : ℕ) → m ≡ t * 2 ^ j → j ≤ 1074 → m * 2 ^ (1074 - j) ≡ t * 2 ^ 1074
shifted t m j e h =
    let w : j + (1074 - j) ≡ 1074 = omega arith in
    ap (λ (z : ℕ). z * 2 ^ (1074 - j)) e ∙ mul_assoc t (2 ^ j) (2 ^ (1074 - j)) ∙ ap (λ (z : ℕ). t * z) (sym (pow-add 2 j (1074 - j)) ∙ ap (λ (z : ℕ). 2 ^ z) w)

-- ---- a value that is not subnormal, with the bit pattern b

abbrev pub sig : ℕ → ℕ
sig b = b % 2 ^ 52 + 2 ^ 52

abbrev pub exp : ℕ → ℕ
exp b = b / 2 ^ 52 + 1073

pub high_scaled : (b : ℕ) → 2 ^ 52 ≤ b → b < 2047 * 2 ^ 52 → Scaled (sig b) (exp b)
high_scaled b l h = (omega arith, omega arith, omega arith, omega arith)

pub high_root : (b : ℕ) → 2 ^ 52 ≤ b → sig b * 2 ^ (b / 2 ^ 52 - 1) * 2 ^ 1074 ≡ sig b * 2 ^ exp b
high_root b l =
    let w : b / 2 ^ 52 - 1 + 1074 ≡ exp b = omega arith in
    mul_assoc (sig b) (2 ^ (b / 2 ^ 52 - 1)) (2 ^ 1074) ∙ ap (λ (z : ℕ). sig b * z) (sym (pow-add 2 (b / 2 ^ 52 - 1) 1074) ∙ ap (λ (z : ℕ). 2 ^ z) w)
