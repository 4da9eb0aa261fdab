-- Laws of the loops over a block: all plain where all were counted, and logarithms block by block. Assumes nothing.
use Prim.Native.Nat.{ℕ, zero, suc, ◌+◌, ◌-◌, ◌≤◌, ◌<◌}
use mathlib.Core.Path.{◌≡◌, refl, sym, ap, ap₂, ◌∙◌}
use mathlib.Core.Bool.{Bool, true, false, cond}
use mathlib.Core.List.{List, [], ◌∷◌, ◌++◌, map, append_assoc}
use native.Mathlib.Nat.{not-suc-le-zero}
use native.Mathlib.Omega.{arith}
use lib.ListN.{length, get_or, take, drop, length-append, length-map, length-take, take-append-drop}
use lib.Seq.{take_at, drop_at, take-add, drop-drop}
use lib.Ieee.{Float, nan}
use Rattle.std.specs.List.{count_by}
use Rattle.std.proofs.lemmas.List.Sums.{count_by-le-length, sum_by-cons}
use Rattle.elementary.specs.Logarithm.{ln}
use Rattle.logarithms.specs.Inner.Stages.{plain}

-- ---- plain values
-- where all were counted, each is plain
pub all_counted : (xs : List Float) → count_by plain xs ≡ length xs → (i : ℕ) → i < length xs → plain (get_or xs i nan) ≡ true
all_counted [] e i h = absurd (not-suc-le-zero h)
all_counted (x ∷ xs) e i h = at i h (plain x) refl (sym (sum_by-cons (λ y. cond (plain y) 1 0) x xs) ∙ e) (all_counted xs)
  where
    fewer : {n m : ℕ} → n ≤ m → 0 + n ≡ suc m → ⊥
    fewer l e = omega (arith, l, e)

    at : (i : ℕ) → i < length (x ∷ xs) → (b : Bool) → plain x ≡ b → cond b 1 0 + count_by plain xs ≡ length (x ∷ xs) → (count_by plain xs ≡ length xs → (k : ℕ) → k < length xs → plain (get_or xs k nan) ≡ true) → plain (get_or (x ∷ xs) i nan) ≡ true
    at i h false p e later = absurd (fewer (count_by-le-length plain xs) e)
    at zero h true p e later = p
    at (suc i) h true p e later = later (omega (arith, e)) i (omega (arith, h))

-- ---- block by block
map_append : (xs ys : List Float) → map ln (xs ++ ys) ≡ map ln xs ++ map ln ys
map_append [] ys = refl
map_append (x ∷ xs) ys = ap (λ (r : List Float). ln x ∷ r) (map_append xs ys)

-- `xs` with its first `a` values set to their logarithms
abbrev pub done_to : ℕ → List Float → List Float
done_to a xs = map ln (take a xs) ++ drop a xs

pub done_length : (a : ℕ) (xs : List Float) → length (done_to a xs) ≡ length xs
done_length a xs =
    length-append (map ln (take a xs)) (drop a xs)
    ∙ ap (λ (n : ℕ). n + length (drop a xs)) (length-map (take a xs) ln)
    ∙ sym (length-append (take a xs) (drop a xs))
    ∙ ap length (take-append-drop a xs)

-- one block more, from `a` up to `e`
pub done_more : (xs ys zs : List Float) (a e : ℕ) → a ≤ e → e ≤ length xs → ys ≡ done_to a xs → zs ≡ map ln (take (e - a) (drop a ys))
    → take a ys ++ (zs ++ drop (e - a) (drop a ys)) ≡ done_to e xs
done_more xs ys zs a e h l p q =
    let w : length (map ln (take a xs)) ≡ a = length-map (take a xs) ln ∙ front a xs (omega arith) in
    let f : take a ys ≡ map ln (take a xs) = ap (take a) p ∙ take_at (map ln (take a xs)) (drop a xs) a w in
    let b : drop a ys ≡ drop a xs = ap (drop a) p ∙ drop_at (map ln (take a xs)) (drop a xs) a w in
    let s : a + (e - a) ≡ e = omega arith in
    ap₂ (λ (u v : List Float). u ++ v) f (ap₂ (λ (u v : List Float). u ++ v) (q ∙ ap (λ (u : List Float). map ln (take (e - a) u)) b) (ap (drop (e - a)) b))
    ∙ sym (append_assoc (map ln (take a xs)) (map ln (take (e - a) (drop a xs))) (drop (e - a) (drop a xs)))
    ∙ ap₂ (λ (u v : List Float). u ++ v)
    (sym (map_append (take a xs) (take (e - a) (drop a xs))) ∙ ap (map ln) (sym (take-add a (e - a) xs) ∙ ap (λ (n : ℕ). take n xs) s))
    (drop-drop (e - a) a xs ∙ ap (λ (n : ℕ). drop n xs) s)
  where
    front : (a : ℕ) (xs : List Float) → a ≤ length xs → length (take a xs) ≡ a
    front a xs h = simp length-take (omega arith)
