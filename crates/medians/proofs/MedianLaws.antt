-- Laws of the median: the loops that write and clear the differences, the middle values, and the median of them. Assumes nothing.
use Prim.Native.Nat.{ℕ, ◌+◌, ◌-◌, ◌/◌, ◌%◌, ◌≤◌, ◌<◌}
use mathlib.Core.Path.{◌≡◌, refl, sym, ap, ◌∙◌, subst}
use mathlib.Core.Bool.{Bool, true, false, false≢true, ◌&&◌, and-false}
use mathlib.Core.List.{List}
use native.Mathlib.Omega.{arith}
use borrow.Author.Tests.{lt-ltb, le-ltb, ltb-true, eqb-true, eq-eqb, ne_eqb}
use lib.Dec.{ltb, eqb}
use lib.ListN.{length, get_or, set, take, replicate}
use lib.Seq.{take-length}
use lib.Ieee.{Float, nan, inf, fin, add, is_nan}
use Rattle.floats.specs.Numbers.{◌+ᶠ◌, ◌*ᶠ◌, +0, ratio}
use Rattle.areas.specs.Parts.{tab}
use Rattle.areas.proofs.PartLaws.{tab_length, tab_at, tab_more}
use Rattle.medians.specs.declared.Middles.{Middles}
use Rattle.medians.specs.Median.{difference_at, differences, median, fits_run, Found}
use Rattle.medians.specs.Inner.Ranks.{Each, magnitude, ranked_of, first_of, second_of, Middle}
use Rattle.medians.proofs.MagnitudeLaws.{difference_magnitude}
use Rattle.medians.proofs.RankLaws.{is_nan_lem}
use Rattle.medians.proofs.PassingLaws.{front_more}

-- ---- the differences
pub differences_more : (channel xs : List Float) (i : ℕ) (v : Float) → i < length xs → v ≡ difference_at channel i → take i xs ≡ tab (difference_at channel) i
    → take (i + 1) (set xs i v) ≡ tab (difference_at channel) (i + 1)
differences_more channel xs i v h d e = front_more xs i v (tab (difference_at channel) i) h e ∙ (rw d (sym (tab_more (difference_at channel) i)))

pub whole_front : (xs : List Float) (i : ℕ) (ys : List Float) → i ≡ length xs → take i xs ≡ ys → xs ≡ ys
whole_front xs i ys e h = sym (take-length xs) ∙ ap (λ (n : ℕ). take n xs) (sym e) ∙ h

pub differences_length : (channel : List Float) → length (differences channel) ≡ length channel - 1
unfolding differences
differences_length channel = tab_length (difference_at channel) (length channel - 1)

differences_magnitudes : (channel : List Float) → Each magnitude (differences channel)
unfolding differences difference_at
differences_magnitudes channel =
    record {
      each = λ i h.
          ap magnitude (tab_at (difference_at channel) (length channel - 1) i nan (rw tab_length at h))
          ∙ difference_magnitude (get_or channel (i + 1) nan) (get_or channel i nan);
    }

pub differences_ready : (channel ys : List Float) (n : ℕ) → ys ≡ differences channel → n + 1 ≡ length channel → 0 < n → (0 < length ys) × Each magnitude ys
differences_ready channel ys n e l h = (omega (arith, ap length e ∙ differences_length channel), subst (Each magnitude) (sym e) (differences_magnitudes channel))

-- ---- the median of the middle values
pub middle_of_equal : {xs ys : List Float} {two : Middles} → xs ≡ ys → Middle xs (first_of (length xs)) (second_of (length xs)) two → Middle ys (first_of (length ys)) (second_of (length ys)) two
middle_of_equal {xs} {ys} {two} e = subst (λ (zs : List Float). Middle zs (first_of (length zs)) (second_of (length zs)) two) e

pub odd_median : (xs : List Float) (two : Middles) (n : ℕ) → Middle xs (first_of (length xs)) (second_of (length xs)) two → n ≡ length xs → n % 2 ≡ 1 → two.high ≡ median xs
unfolding median
odd_median xs two n t e h = t.high ∙ (rw (eq-eqb (length xs % 2) 1 (ap (λ (k : ℕ). k % 2) (sym e) ∙ h)))

-- a sum with NaN is NaN, whatever is added to it
nan_sum : (x : Float) → x +ᶠ nan ≡ nan
unfolding add
nan_sum nan = refl
nan_sum (inf s) = refl
nan_sum (fin s m e) = refl

middle_sum : (xs : List Float) (first second : ℕ) (two : Middles) → Middle xs first second two → two.low +ᶠ two.high ≡ ranked_of xs first +ᶠ ranked_of xs second
middle_sum xs first second two t = side (is_nan two.high) refl
  where
    side : (b : Bool) → is_nan two.high ≡ b → two.low +ᶠ two.high ≡ ranked_of xs first +ᶠ ranked_of xs second
    side false e = rw (t.low e, t.high) refl
    side true e =
        let n = is_nan_lem two.high e in
        ap (λ (z : Float). two.low +ᶠ z) n ∙ nan_sum two.low ∙ sym (nan_sum (ranked_of xs first)) ∙ ap (λ (z : Float). ranked_of xs first +ᶠ z) (sym n ∙ t.high)

pub even_median : (xs : List Float) (two : Middles) (n : ℕ) → Middle xs (first_of (length xs)) (second_of (length xs)) two → n ≡ length xs → (n % 2 ≡ 1 → ⊥) → ratio 1 2 *ᶠ (two.low +ᶠ two.high) ≡ median xs
unfolding median
even_median xs two n t e h =
    let f : first_of (length xs) ≡ length xs / 2 - 1 = below (length xs) (subst (λ (k : ℕ). k % 2 ≡ 1 → ⊥) e h) in
    ap (λ (z : Float). ratio 1 2 *ᶠ z) (middle_sum xs (first_of (length xs)) (second_of (length xs)) two t ∙ ap (λ (k : ℕ). ranked_of xs k +ᶠ ranked_of xs (length xs / 2)) f)
    ∙ (rw (ne_eqb (length xs % 2) 1 (subst (λ (k : ℕ). k % 2 ≡ 1 → ⊥) e h)))
  where
    below : (k : ℕ) → (k % 2 ≡ 1 → ⊥) → (k - 1) / 2 ≡ k / 2 - 1
    below k g = omega arith

-- ---- areas that fit, and what is found by way of them
pub fits_run_lem : (places readings : ℕ) → 0 < places → places + 1 ≡ readings → fits_run places readings ≡ true
unfolding fits_run
fits_run_lem places readings h e = rw (lt-ltb 0 places h, eq-eqb (places + 1) readings e) refl

pub fits_long : (places readings : ℕ) → fits_run places readings ≡ true → (0 < places) × (places + 1 ≡ readings)
unfolding fits_run
fits_long places readings e = sides (ltb 0 places) refl e
  where
    sides : (b : Bool) → ltb 0 places ≡ b → (b && eqb (places + 1) readings) ≡ true → (0 < places) × (places + 1 ≡ readings)
    sides true h f = (ltb-true 0 places h, eqb-true (places + 1) readings f)
    sides false h f = absurd (false≢true f)

pub fits_by_one : (places readings : ℕ) → 0 < places → places < readings → eqb (readings - places) 1 ≡ fits_run places readings
unfolding fits_run
fits_by_one places readings h l = rw (lt-ltb 0 places h) (side (eqb (readings - places) 1) refl)
  where
    side : (b : Bool) → eqb (readings - places) 1 ≡ b → eqb (readings - places) 1 ≡ eqb (places + 1) readings
    side true e = e ∙ sym (eq-eqb (places + 1) readings (omega (arith, eqb-true (readings - places) 1 e, l)))
    side false e = e ∙ sym (ne_eqb (places + 1) readings (λ f. absurd (false≢true (sym e ∙ eq-eqb (readings - places) 1 (omega (arith, f))))))

pub no_places : (places readings : ℕ) → places ≤ 0 → false ≡ fits_run places readings
unfolding fits_run
no_places places readings h = rw (le-ltb 0 places h) refl

pub too_many_places : (places readings : ℕ) → readings ≤ places → false ≡ fits_run places readings
unfolding fits_run
too_many_places places readings h = rw (ne_eqb (places + 1) readings (λ f. omega (arith, f, h))) (sym (and-false (ltb 0 places)))

pub run_left : {channel before : List Float} {r : Float} → fits_run (length before) (length channel) ≡ false → r ≡ nan → Found channel before before r
run_left e a = record { answer = rw e a; run = rw e refl }

pub found_median : {channel before after : List Float} {r : Float} → 0 < length before → length before + 1 ≡ length channel → Found channel before after r → (r ≡ median (differences channel)) × (after ≡ replicate (length before) +0)
found_median {channel} {before} h e f = (rw (fits_run_lem (length before) (length channel) h e) at f.answer, rw (fits_run_lem (length before) (length channel) h e) at f.run)
