-- Where a sum starts shows in nothing but the sign of a mean: from -0 and from +0 the sums are the same unless every reading is -0, and the running sums about the mean are the same always. Assumes nothing.
use Rattle.std.proofs.Common.{◌≡◌, ℕ, zero, suc, ◌*◌, ◌^◌, ◌<◌, ◌≤◌, Bool, true, false, T, ◌⊎◌, List, length, get_or, ℤ, pos, sym, refl, ap, ◌∙◌, inl, inr, true≢false, le_of_suc-le-suc, not-suc-le-zero, zero-lt-suc, eq-or-lt_of_le, mul-pos, zero-mul, mul-one, arith, ne_eqb}
use lib.Ieee.{Float, nan, inf, fin, binary64, prec, up, down, round, add, sub, mul, div, of_int, fits}
use lib.Ieee.Back.{round_whole}
use lib.Ieee.Exact.{HasValue}
use lib.Ieee.Fits.{up_pos, down_pos, mul-fits}
use lib.Ieee.Scale.{round_same}
use Rattle.floats.specs.Numbers.{◌+ᶠ◌, ◌*ᶠ◌, ◌/ᶠ◌, +0, of_whole}
use Rattle.floats.specs.Inner.MinusZero.{negative_zero}
use Rattle.floats.proofs.Exact.{only_zero, zero_plus, minus_zero_plus}
use Rattle.floats.proofs.MinusZero.{no_minus_zero, Plain, plain_zero, plain_add}
use Rattle.sums.specs.Sums.{sum_to, mean_of, centred, centred_to, squares_to}
use Rattle.sums.specs.Inner.Start.{sum_from, mean_from, EachFits}

-- ---- no sum of squares is -0
pub squares_plain : (xs : List Float) (mean : Float) (i : ℕ) → Plain (squares_to xs mean i)
unfolding squares_to
squares_plain xs mean zero = plain_zero
squares_plain xs mean (suc i) = let c = centred xs mean i in plain_add (c *ᶠ c) (squares_plain xs mean i) (mul-fits binary64 c c)

-- ---- a sum from -0 on
-- the first `i` readings of `xs` are all -0
abbrev AllMinus : List Float → ℕ → Type 0
AllMinus xs i = (j : ℕ) → j < i → get_or xs j nan ≡ negative_zero

one_more : (xs : List Float) (i : ℕ) → AllMinus xs i → get_or xs i nan ≡ negative_zero → AllMinus xs (suc i)
one_more xs i all e j h = elim (eq-or-lt_of_le (le_of_suc-le-suc h)) [ inl q ↦ rw q e | inr l ↦ all j l ]

-- the sum of readings that are all -0 is the zero that it starts at
sums_of_minus : (xs : List Float) (i : ℕ) → AllMinus xs i → (sum_from negative_zero xs i ≡ negative_zero) × (sum_to xs i ≡ +0)
unfolding sum_from sum_to
sums_of_minus xs zero all = (refl, refl)
sums_of_minus xs (suc i) all =
    let before = sums_of_minus xs i (λ j h. all j (omega (arith, h))) in
    (rw (before.0, all i (omega arith)) (unfold add in refl), rw (before.1, all i (omega arith)) (unfold add in refl))

decide : (y : Float) → T (fits binary64 y) → (y ≡ negative_zero) ⊎ (y ≡ negative_zero → ⊥)
decide nan f = inr (no_minus_zero nan refl)
decide (inf s) f = inr (no_minus_zero (inf s) refl)
decide (fin true zero e) f = inl (only_zero true e f)
decide (fin false zero e) f = inr (no_minus_zero (fin false zero e) refl)
decide (fin s (suc m) e) f = inr (no_minus_zero (fin s (suc m) e) refl)

starts : (xs : List Float) → EachFits xs → (i : ℕ) → (sum_from negative_zero xs i ≡ sum_to xs i) ⊎ AllMinus xs i
unfolding sum_from sum_to
starts xs held zero = inr (λ j h. absurd (not-suc-le-zero h))
starts xs held (suc i) = elim (starts xs held i) [
  | inl e ↦ inl (ap (λ (s : Float). s +ᶠ get_or xs i nan) e)
  | inr all ↦ next all (decide (get_or xs i nan) (held i))
]
  where
    next : AllMinus xs i → (get_or xs i nan ≡ negative_zero) ⊎ (get_or xs i nan ≡ negative_zero → ⊥) → (sum_from negative_zero xs i +ᶠ get_or xs i nan ≡ sum_to xs i +ᶠ get_or xs i nan) ⊎ AllMinus xs (suc i)
    next all (inl e) = inr (one_more xs i all e)
    next all (inr h) =
        let before = sums_of_minus xs i all in
        inl (ap (λ (s : Float). s +ᶠ get_or xs i nan) before.0 ∙ minus_zero_plus (get_or xs i nan) (held i) ∙ sym (zero_plus (get_or xs i nan) (held i) h) ∙ ap (λ (s : Float). s +ᶠ get_or xs i nan) (sym before.1))

-- the sum from -0 on is the sum from +0 on where some reading, `j`, is not -0
pub sum_from_minus_zero : (xs : List Float) → EachFits xs → (i j : ℕ) → j < i → (get_or xs j nan ≡ negative_zero → ⊥) → sum_from negative_zero xs i ≡ sum_to xs i
sum_from_minus_zero xs held i j h other = elim (starts xs held i) [ inl e ↦ e | inr all ↦ absurd (other (all j h)) ]

-- ---- the running sums about either mean
zero_by_some : (z : Bool) (c : ℕ) → 0 < c → round binary64 z 0 c ≡ fin z 0 (pos 0)
unfolding round
zero_by_some z c h = round_same binary64 z 0 c 0 1 h (omega arith) (omega arith)

some : (m : ℕ) → suc m ≡ 0 → ⊥
some m e = omega (arith, e)

zero_over_some : (z : Bool) (m : ℕ) (d : ℤ) → fin z 0 (pos 0) /ᶠ fin false (suc m) d ≡ fin z 0 (pos 0)
unfolding div
zero_over_some true m d = rw (ne_eqb (suc m) 0 (λ e. some m e), zero-mul (down d), mul-one (suc m * up d)) (zero_by_some true (suc m * up d) (mul-pos (zero-lt-suc m) (up_pos d)))
zero_over_some false m d = rw (ne_eqb (suc m) 0 (λ e. some m e), zero-mul (down d), mul-one (suc m * up d)) (zero_by_some false (suc m * up d) (mul-pos (zero-lt-suc m) (up_pos d)))

zero_over : (z : Bool) (n : ℕ) → 0 < n → n ≤ 2 ^ prec binary64 → fin z 0 (pos 0) /ᶠ of_whole n ≡ fin z 0 (pos 0)
unfolding of_int
zero_over z n h l = go (round binary64 false n 1) (round_whole binary64 false n l)
  where
    none : (u d : ℕ) → 0 < n * d → 0 * u * 1 ≡ n * d → ⊥
    none u d p e = omega (arith, p, e)

    go : (y : Float) → HasValue y false n 1 → fin z 0 (pos 0) /ᶠ y ≡ fin z 0 (pos 0)
    go nan v = absurd v
    go (inf t) v = absurd v
    go (fin t zero d) v = absurd (none (up d) (down d) (mul-pos h (down_pos d)) v.1)
    go (fin true (suc m) d) v = absurd (true≢false v.0)
    go (fin false (suc m) d) v = zero_over_some z m d

-- the running sums of readings that are all -0 are +0, about either zero
minus_about : (xs : List Float) (z : Bool) (i : ℕ) → AllMinus xs i → (centred_to xs (fin z 0 (pos 0)) i ≡ +0) × (squares_to xs (fin z 0 (pos 0)) i ≡ +0)
unfolding centred_to squares_to centred
minus_about xs z zero all = (refl, refl)
minus_about xs true (suc i) all =
    let before = minus_about xs true i (λ j h. all j (omega (arith, h))) in
    (rw (before.0, all i (omega arith)) (unfold add sub in refl), rw (before.1, all i (omega arith)) (unfold add sub mul in refl))
minus_about xs false (suc i) all =
    let before = minus_about xs false i (λ j h. all j (omega (arith, h))) in
    (rw (before.0, all i (omega arith)) (unfold add sub in refl), rw (before.1, all i (omega arith)) (unfold add sub mul in refl))

-- the running sums are the same about either mean, for at most 2 ^ 53 readings
pub running_from_minus_zero : (xs : List Float) → EachFits xs → length xs ≤ 2 ^ prec binary64 → (i : ℕ) → i ≤ length xs
    → (centred_to xs (mean_from negative_zero xs) i ≡ centred_to xs (mean_of xs) i) × (squares_to xs (mean_from negative_zero xs) i ≡ squares_to xs (mean_of xs) i)
unfolding mean_from mean_of centred_to squares_to
running_from_minus_zero xs held short zero h = (refl, refl)
running_from_minus_zero xs held short (suc i) h = elim (starts xs held (length xs)) [
  | inl e ↦
      let same : mean_from negative_zero xs ≡ mean_of xs = ap (λ (s : Float). s /ᶠ of_whole (length xs)) e in
      (ap (λ (m : Float). centred_to xs m (suc i)) same, ap (λ (m : Float). squares_to xs m (suc i)) same)
  | inr all ↦ minus all
]
  where
    minus : AllMinus xs (length xs) → (centred_to xs (mean_from negative_zero xs) (suc i) ≡ centred_to xs (mean_of xs) (suc i)) × (squares_to xs (mean_from negative_zero xs) (suc i) ≡ squares_to xs (mean_of xs) (suc i))
    minus all =
        let n = length xs in
        let some : 0 < n = omega (arith, h) in
        let sums = sums_of_minus xs n all in
        let a : mean_from negative_zero xs ≡ negative_zero = ap (λ (s : Float). s /ᶠ of_whole n) sums.0 ∙ zero_over true n some short in
        let b : mean_of xs ≡ +0 = ap (λ (s : Float). s /ᶠ of_whole n) sums.1 ∙ zero_over false n some short in
        let c = minus_about xs true (suc i) (λ j l. all j (omega (arith, l, h))) in
        let d = minus_about xs false (suc i) (λ j l. all j (omega (arith, l, h))) in
        (ap (λ (m : Float). centred_to xs m (suc i)) a ∙ c.0 ∙ sym d.0 ∙ ap (λ (m : Float). centred_to xs m (suc i)) (sym b), ap (λ (m : Float). squares_to xs m (suc i)) a ∙ c.1 ∙ sym d.1 ∙ ap (λ (m : Float). squares_to xs m (suc i)) (sym b))
