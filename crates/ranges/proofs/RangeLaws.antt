-- Laws of the lowest and the highest reading: each takes in one more reading, and readings within the range change neither. Assumes nothing.
use Prim.Native.Nat.{ℕ, zero, suc, ◌+◌, ◌≤◌, ◌<◌}
use mathlib.Core.Path.{◌≡◌, refl, sym, ap, ap₂, ◌∙◌}
use mathlib.Core.Bool.{Bool, true, false, cond, ◌||◌, true≢false, false≢true}
use mathlib.Core.List.{List, [], ◌∷◌}
use native.Mathlib.Nat.{le_refl, le_of_lt}
use native.Mathlib.Numerals.{add-one}
use native.Mathlib.Omega.{arith}
use lib.Dec.{T}
use lib.ListN.{get_or, length, take}
use lib.Seq.{take-length}
use Rattle.std.specs.List.{list_any}
use Rattle.std.proofs.lemmas.List.Sums.{fold_more}
use Rattle.floats.specs.Numbers.{+∞, -∞}
use lib.Ieee.{Float, nan, inf, fin, ne, lt}
use lib.Ieee.Compare.{differs_from_itself}
use Rattle.floats.specs.MaxMin.{larger, smaller}
use Rattle.ranges.specs.declared.Range.{Range}
use Rattle.ranges.specs.Ranges.{lowest_to, highest_to, range_of}
use Rattle.ranges.specs.Inner.Blocks.{beyond, with_reading, taken_in}

-- ---- neither the lowest nor the highest is NaN
module _ (before : Float → Float → Bool) (number : (x y : Float) → before x y ≡ true → ne x x ≡ false) where
  -- `x` where it is `before` `m` or `m` is NaN, and `m` otherwise
  abbrev pick : Float → Float → Float
  pick m x = cond (before x m) x (cond (ne m m) x m)

  pick_number : (m x : Float) → ne m m ≡ false → ne (pick m x) (pick m x) ≡ false
  pick_number m x h = side (before x m) refl
    where
      side : (b : Bool) → before x m ≡ b → ne (cond b x (cond (ne m m) x m)) (cond b x (cond (ne m m) x m)) ≡ false
      side true e = number x m e
      side false e = rw (ap (λ (b : Bool). cond b x m) h) h

  pick_same : (m x : Float) → ne m m ≡ false → before x m ≡ false → pick m x ≡ m
  pick_same m x h e = rw (e, h) refl

nan_below : (y : Float) → lt nan y ≡ false
unfolding lt
nan_below y = refl

below_nan : (y : Float) → lt y nan ≡ false
unfolding lt
below_nan nan = refl
below_nan (inf s) = refl
below_nan (fin s m e) = refl

is_number : (x : Float) → (x ≡ nan → ⊥) → ne x x ≡ false
is_number x h = side (ne x x) (differs_from_itself x)
  where
    side : (b : Bool) → (T b → x ≡ nan) → b ≡ false
    side false f = refl
    side true f = absurd (h (f tt))

lower_number : (x y : Float) → lt x y ≡ true → ne x x ≡ false
lower_number x y e = is_number x (λ h. false≢true (sym (nan_below y) ∙ ap (λ (z : Float). lt z y) (sym h) ∙ e))

higher_number : (x y : Float) → lt y x ≡ true → ne x x ≡ false
higher_number x y e = is_number x (λ h. false≢true (sym (below_nan y) ∙ ap (lt y) (sym h) ∙ e))

lowest_number : (xs : List Float) (i : ℕ) → ne (lowest_to xs i) (lowest_to xs i) ≡ false
unfolding lowest_to smaller ne
lowest_number xs zero = refl
lowest_number xs (suc i) = pick_number lt lower_number (lowest_to xs i) (get_or xs i nan) (lowest_number xs i)

highest_number : (xs : List Float) (i : ℕ) → ne (highest_to xs i) (highest_to xs i) ≡ false
unfolding highest_to larger ne
highest_number xs zero = refl
highest_number xs (suc i) = pick_number (λ (x m : Float). lt m x) higher_number (highest_to xs i) (get_or xs i nan) (highest_number xs i)

-- ---- one more reading, by one comparison
pub lowest_more : (xs : List Float) (i : ℕ) (m : Float) → m ≡ lowest_to xs i → cond (lt (get_or xs i nan) m) (get_or xs i nan) m ≡ lowest_to xs (i + 1)
unfolding lowest_to smaller
lowest_more xs i m e = rw (add-one, e, lowest_number xs i)

pub highest_more : (xs : List Float) (i : ℕ) (m : Float) → m ≡ highest_to xs i → cond (lt m (get_or xs i nan)) (get_or xs i nan) m ≡ highest_to xs (i + 1)
unfolding highest_to larger
highest_more xs i m e = rw (add-one, e, highest_number xs i)

-- ---- readings within the range
stays : (r : Range) (x : Float) → beyond r x ≡ false → with_reading r x ≡ r
stays r x e = side (lt x r.lo) (lt r.hi x) refl refl e
  where
    side : (a b : Bool) → lt x r.lo ≡ a → lt r.hi x ≡ b → (a || b) ≡ false → with_reading r x ≡ r
    side true b f g h = absurd (true≢false h)
    side false true f g h = absurd (true≢false h)
    side false false f g h = rw (f, g) refl

-- where no reading is beyond the range, it stays
pub taken_on : (r : Range) (xs : List Float) → list_any (beyond r) xs ≡ false → taken_in r xs ≡ r
taken_on r [] e = refl
taken_on r (x ∷ xs) e = side (beyond r x) refl e (λ h. taken_on r xs h)
  where
    side : (b : Bool) → beyond r x ≡ b → (b || list_any (beyond r) xs) ≡ false → (list_any (beyond r) xs ≡ false → taken_in r xs ≡ r) → taken_in (with_reading r x) xs ≡ r
    side true f h k = absurd (true≢false h)
    side false f h k = ap (λ (z : Range). taken_in z xs) (stays r x f) ∙ k h

-- ---- all readings, from an empty range
abbrev pub none : Range
none = record { lo = +∞; hi = -∞ }

taken_to : (xs : List Float) (i : ℕ) → i ≤ length xs → taken_in none (take i xs) ≡ record { lo = lowest_to xs i; hi = highest_to xs i }
unfolding lowest_to highest_to
taken_to xs zero l = refl
taken_to xs (suc i) l =
    let h : i < length xs = l in
    let e = taken_to xs i (le_of_lt h) in
    rw add-one at (fold_more with_reading none xs i nan h)
    ∙ ap₂ (λ (a b : Float). record { lo = a; hi = b }) (rw add-one at (lowest_more xs i _ (ap (λ (z : Range). z.lo) e))) (rw add-one at (highest_more xs i _ (ap (λ (z : Range). z.hi) e)))

taken_all : (xs : List Float) → taken_in none xs ≡ range_of xs
unfolding range_of
taken_all xs = ap (taken_in none) (sym (take-length xs)) ∙ taken_to xs (length xs) (le_refl (length xs))

-- where nothing is left to come, all are taken in
pub taken_whole : (r : Range) (xs ys : List Float) → taken_in r xs ≡ taken_in none ys → length xs ≡ 0 → r ≡ range_of ys
taken_whole r [] ys e l = e ∙ taken_all ys
taken_whole r (x ∷ xs) ys e l = absurd (omega arith)
