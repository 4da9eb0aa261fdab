-- m * 2 ^ p is x * 4 ^ k, for an x of 105 or 106 digits that is m or twice m with 52 zeros: the arithmetic of `rooted`. Assumes nothing.
use Rattle.std.proofs.Common.{◌≡◌, ℕ, zero, suc, ◌+◌, ◌-◌, ◌*◌, ◌/◌, ◌%◌, ◌^◌, ◌<◌, ◌≤◌, false, sym, ap, ◌∙◌, mod-lt, zero-lt-suc, mul_assoc, mul-zero, not-le_of_lt, arith, pow-add}
use lib.Ieee.{binary64, units}
use Rattle.elementary.specs.Root.{near_root}
use Rattle.elementary.specs.Inner.Parts.{Near, Scaled}
use Rattle.elementary.proofs.root.Roots.{near_root_lem, near_bounds}

doubled : (m o : ℕ) → o < 2 → (m * o ≤ m) × (m + m * o ≡ m * 2 ^ o)
doubled m zero h = (omega (arith, mul-zero m), omega (arith, mul-zero m))
doubled m (suc zero) h = (omega arith, omega arith)
doubled m (suc (suc o)) h = absurd (not-le_of_lt h (omega arith))

-- what `rooted` gives to `guessed`: `m`, or twice `m`
abbrev pub taken : ℕ → ℕ → ℕ
taken m p = m + m * ((p - 52) % 2)

pub taken_in : (m p : ℕ) → Scaled m p → (m * ((p - 52) % 2) ≤ m) × (2 ^ 52 ≤ taken m p) × (taken m p < 2 ^ 54)
taken_in m p s =
    let d = doubled m ((p - 52) % 2) (mod-lt (p - 52) (zero-lt-suc 1)) in
    (d.0, omega (arith, s), omega (arith, d.0, s.1))

pub same : (m p : ℕ) → Scaled m p → m * 2 ^ p ≡ taken m p * 2 ^ 52 * (2 ^ ((p - 52) / 2) * 2 ^ ((p - 52) / 2))
same m p s =
    let o = (p - 52) % 2 in
    let k = (p - 52) / 2 in
    let d = doubled m o (mod-lt (p - 52) (zero-lt-suc 1)) in
    let e : p ≡ o + 52 + (k + k) = omega (arith, s.2) in
    ap (λ (z : ℕ). m * 2 ^ z) e
    ∙ ap (λ (z : ℕ). m * z) (pow-add 2 (o + 52) (k + k))
    ∙ sym (mul_assoc m (2 ^ (o + 52)) (2 ^ (k + k)))
    ∙ ap (λ (z : ℕ). m * z * 2 ^ (k + k)) (pow-add 2 o 52)
    ∙ ap (λ (z : ℕ). z * 2 ^ (k + k)) (sym (mul_assoc m (2 ^ o) (2 ^ 52)))
    ∙ ap (λ (z : ℕ). z * 2 ^ 52 * 2 ^ (k + k)) (sym d.1)
    ∙ ap (λ (z : ℕ). taken m p * 2 ^ 52 * z) (pow-add 2 k k)

module _ (m p g : ℕ) (s : Scaled m p) (v : Near (taken m p * 2 ^ 52) g) where
  lo : 2 ^ 104 ≤ taken m p * 2 ^ 52
  lo = omega (arith, (taken_in m p s).1)

  hi : taken m p * 2 ^ 52 < 2 ^ 106
  hi = omega (arith, (taken_in m p s).2)

  pub scaled_place : (2 ^ 52 ≤ g) × (g ≤ 2 ^ 53) × ((p - 52) / 2 ≤ 2044)
  scaled_place = let b = near_bounds (taken m p * 2 ^ 52) g lo hi v in (b.0, b.1, omega (arith, s.3))

  pub scaled_root : near_root (m * 2 ^ p) ≡ units binary64 false g ((p - 52) / 2)
  scaled_root = near_root_lem (m * 2 ^ p) (taken m p * 2 ^ 52) ((p - 52) / 2) (same m p s) lo hi g v
