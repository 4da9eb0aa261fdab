-- Laws of counting the values that pass a test, and what a count says of single values. Assumes nothing.
use Prim.Native.Nat.{ℕ, zero, suc, ◌+◌, ◌≤◌, ◌<◌, zero-le, suc-le-suc}
use mathlib.Core.Path.{◌≡◌, refl, sym, ap, ◌∙◌}
use mathlib.Core.Bool.{Bool, true, false, not, cond}
use mathlib.Core.List.{List, [], ◌∷◌, ◌++◌}
use native.Mathlib.Nat.{not-suc-le-zero, le_of_suc-le-suc}
use native.Mathlib.Omega.{arith}
use borrow.Author.Tests.{not-false}
use lib.ListN.{length, get_or, take}
use Rattle.std.specs.Int.{from_bool}
use lib.Seq.{take-suc}
use native.Mathlib.Numerals.{add-one}
use lib.Ieee.{Float, nan}
use Rattle.medians.specs.Inner.Ranks.{count, Each}

abbrev pub one : Bool → ℕ
one b = cond b 1 0

-- a `bool` as a number: 1 or 0
pub one_of : {m : ℕ} {a b : Bool} → m ≡ from_bool a → a ≡ b → m ≡ one b
one_of {m} {a} {b} e f = e ∙ side a ∙ ap one f
  where
    side : (a : Bool) → from_bool a ≡ one a
    side true = refl
    side false = refl

pub one_most : {m : ℕ} (a : Bool) → m ≡ from_bool a → m ≤ 1
one_most {m} a e = side a e
  where
    side : (a : Bool) → m ≡ from_bool a → m ≤ 1
    side true e = omega (arith, e)
    side false e = omega (arith, e)

count_append : (p : Float → Bool) (xs ys : List Float) → count p (xs ++ ys) ≡ count p xs + count p ys
unfolding count
count_append p [] ys = omega arith
count_append p (x ∷ xs) ys = rw (count_append p xs ys) (omega arith)

-- one value more
pub count_more : (p : Float → Bool) (xs : List Float) (i : ℕ) → i < length xs → count p (take (suc i) xs) ≡ count p (take i xs) + one (p (get_or xs i nan))
unfolding count
count_more p xs i h = ap (count p) (take-suc xs i nan h) ∙ count_append p (take i xs) (get_or xs i nan ∷ []) ∙ ap (λ (n : ℕ). count p (take i xs) + n) (let z : one (p (get_or xs i nan)) + 0 ≡ one (p (get_or xs i nan)) = omega arith in z)

-- where every value at an index of at least `m` fails, at most `m` pass
pub count_most : (p : Float → Bool) (xs : List Float) (m : ℕ) → ((i : ℕ) → m ≤ i → i < length xs → p (get_or xs i nan) ≡ false) → count p xs ≤ m
unfolding count
count_most p [] m h = zero-le
count_most p (x ∷ xs) zero h = rw (h 0 zero-le (omega arith)) (omega (arith, count_most p xs zero (λ i l k. h (suc i) zero-le (suc-le-suc k))))
count_most p (x ∷ xs) (suc m) h = side (p x) (count_most p xs m (λ i l k. h (suc i) (suc-le-suc l) (suc-le-suc k)))
  where
    side : (b : Bool) → count p xs ≤ m → one b + count p xs ≤ suc m
    side true k = omega arith
    side false k = omega arith

pub count_length : (p : Float → Bool) (xs : List Float) → count p xs ≤ length xs
count_length p xs = count_most p xs (length xs) (λ i l h. absurd (beyond i l h))
  where
    beyond : (i : ℕ) → length xs ≤ i → i < length xs → ⊥
    beyond i l h = omega (arith, l, h)

-- a loop that adds 1 or 0: one value more
pub counted_more : (p : Float → Bool) (xs : List Float) (i n : ℕ) {m : ℕ} → n ≡ count p (take i xs) → i < length xs → m ≡ one (p (get_or xs i nan)) → n + m ≡ count p (take (i + 1) xs)
counted_more p xs i n e h f = rw add-one (omega (arith, e, f, count_more p xs i h))

-- where the first `m` values pass, at least `m` do
pub count_least : (p : Float → Bool) (xs : List Float) (m : ℕ) → m ≤ length xs → ((i : ℕ) → i < m → p (get_or xs i nan) ≡ true) → m ≤ count p xs
unfolding count
count_least p xs zero l h = zero-le
count_least p [] (suc m) l h = absurd (not-suc-le-zero l)
count_least p (x ∷ xs) (suc m) l h = rw (h 0 (omega arith)) (omega (arith, count_least p xs m (le_of_suc-le-suc l) (λ i k. h (suc i) (suc-le-suc k))))

-- a test `q` that every value passes which passes `p` counts at least as many
pub count_weaker : (p q : Float → Bool) (xs : List Float) → ((v : Float) → p v ≡ true → q v ≡ true) → count p xs ≤ count q xs
unfolding count
count_weaker p q [] h = zero-le
count_weaker p q (x ∷ xs) h = side (p x) refl (count_weaker p q xs h)
  where
    side : (b : Bool) → p x ≡ b → count p xs ≤ count q xs → one (p x) + count p xs ≤ one (q x) + count q xs
    side true e k = rw (e, h x e) (omega arith)
    side false e k = rw e (omega arith)

-- where none passes each fails, and the other way round
pub count_none : (p : Float → Bool) (xs : List Float) (i : ℕ) → count p xs ≡ 0 → i < length xs → p (get_or xs i nan) ≡ false
unfolding count
count_none p [] i e h = absurd (not-suc-le-zero h)
count_none p (x ∷ xs) zero e h = side (p x) refl
  where
    side : (b : Bool) → p x ≡ b → p x ≡ false
    side false k = k
    side true k = absurd (never (rw k at e))
      where
        never : 1 + count p xs ≡ 0 → ⊥
        never f = omega arith
count_none p (x ∷ xs) (suc i) e h = count_none p xs i (omega arith) (le_of_suc-le-suc h)

each_not : {p : Float → Bool} {xs : List Float} → Each p xs → count (λ (v : Float). not (p v)) xs ≡ 0
each_not {p} {xs} h = omega (arith, count_most (λ (v : Float). not (p v)) xs 0 (λ i l k. ap not (h.each i k)))

-- where every value of `xs` that passes `p` passes `q`, `q` counts at least as many
pub count_implied : (p q : Float → Bool) (xs : List Float) → ((i : ℕ) → i < length xs → p (get_or xs i nan) ≡ true → q (get_or xs i nan) ≡ true) → count p xs ≤ count q xs
unfolding count
count_implied p q [] h = zero-le
count_implied p q (x ∷ xs) h = side (p x) refl (count_implied p q xs (λ i l. h (suc i) (suc-le-suc l)))
  where
    side : (b : Bool) → p x ≡ b → count p xs ≤ count q xs → one (p x) + count p xs ≤ one (q x) + count q xs
    side true e k = rw (e, h 0 (suc-le-suc zero-le) e) (omega arith)
    side false e k = rw e (omega arith)

-- of two lists `xs` and `ys` in which every test counts the same, every value of `ys` passes `p` where every one of `xs` does
pub counts_each : {p : Float → Bool} {xs ys : List Float} → ((q : Float → Bool) → count q xs ≡ count q ys) → Each p xs → Each p ys
counts_each {p} {xs} {ys} s h = record { each = λ i l. not-false (p (get_or ys i nan)) (count_none (λ (v : Float). not (p v)) ys i (sym (s (λ (v : Float). not (p v))) ∙ each_not h) l) }

-- ---- counts by two tests
module _ (p q r : Float → Bool) where
  pub count_parts : (xs : List Float) → ((y : Float) → one (p y) ≡ one (q y) + one (r y)) → count p xs ≡ count q xs + count r xs
  unfolding count
  count_parts [] h = refl
  count_parts (x ∷ xs) h = omega (arith, h x, count_parts xs h)

  pub count_either : (xs : List Float) → ((y : Float) → one (p y) ≤ one (q y) + one (r y)) → count p xs ≤ count q xs + count r xs
  unfolding count
  count_either [] h = zero-le
  count_either (x ∷ xs) h = omega (arith, h x, count_either xs h)

  pub count_apart : (xs : List Float) → ((y : Float) → one (q y) + one (r y) ≤ one (p y)) → count q xs + count r xs ≤ count p xs
  unfolding count
  count_apart [] h = zero-le
  count_apart (x ∷ xs) h = omega (arith, h x, count_apart xs h)

-- where every value of `xs` that passes `p` passes `q`, and one of them passes `q` alone, `q` counts more
pub count_strict : (p q : Float → Bool) (xs : List Float) (i : ℕ) → ((y : Float) → p y ≡ true → q y ≡ true) → i < length xs → p (get_or xs i nan) ≡ false → q (get_or xs i nan) ≡ true → count p xs < count q xs
unfolding count
count_strict p q [] i h l e f = absurd (not-suc-le-zero l)
count_strict p q (x ∷ xs) zero h l e f = rw (e, f) (omega (arith, count_weaker p q xs h))
count_strict p q (x ∷ xs) (suc i) h l e f = side (p x) refl (count_strict p q xs i h (le_of_suc-le-suc l) e f)
  where
    side : (b : Bool) → p x ≡ b → count p xs < count q xs → one (p x) + count p xs < one (q x) + count q xs
    side true t k = rw (t, h x t) (omega arith)
    side false t k = rw t (omega arith)

-- where each fails none passes
pub count_never : (p : Float → Bool) (xs : List Float) → ((y : Float) → p y ≡ false) → count p xs ≡ 0
count_never p xs h = omega (arith, count_most p xs 0 (λ i l k. h (get_or xs i nan)))
