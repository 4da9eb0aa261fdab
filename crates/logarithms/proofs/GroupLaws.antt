-- Laws of groups of 16 values: arrays that calls made, and the turns of a sum. Assumes nothing.
use Prim.Native.Nat.{ℕ, zero, suc, ◌+◌, ◌-◌, ◌*◌, ◌≤◌, ◌<◌}
use mathlib.Core.Path.{◌≡◌, sym, ap, ap₂, subst, ◌∙◌}
use mathlib.Core.List.{List}
use native.Mathlib.Nat.{eq-or-lt_of_le}
use mathlib.Core.Logic.{inl, inr}
use native.Mathlib.Omega.{arith}
use native.Mathlib.Decide.{dec_le}
use lib.ListN.{get_or, replicate, get_or-replicate}
use lib.Ieee.{Float, nan}
use Rattle.std.specs.Array.{IsFromFnResult, IsFromFnResultFrom}
use Rattle.std.specs.Fn.{Mut, Called}
use Rattle.floats.specs.Numbers.{◌+ᶠ◌, ◌*ᶠ◌, ◌/ᶠ◌, of_whole}
use Rattle.elementary.specs.Logarithm.{series}
use Rattle.logarithms.specs.Inner.Stages.{Begun, Each, Filled, Put}

-- an array that was made by calls, each of which leaves `g` as it was and answers `f` of its index
pub filled_by_calls : {G : Type 0} {calls : Mut G (ℕ × Unit {0}) Float} {g : G} {xs : List Float} {n : ℕ} (f : ℕ → Float) → IsFromFnResult calls g xs n
    → ((i : ℕ) (x : Float) (h : G) → Called calls g (i, tt) x h → (h ≡ g) × (x ≡ f i)) → Filled f n xs
filled_by_calls {G} {calls} {g} {xs} {n} f made call = record { each = λ i h. from 0 n made.each i (omega arith) (omega (arith, h)) }
  where
    from : (start n : ℕ) → IsFromFnResultFrom calls g xs start n → (i : ℕ) → start ≤ i → i < start + n → get_or xs i nan ≡ f i
    from start zero m i l h = absurd (omega (arith, l, h))
    from start (suc n) m i l h = let answer = call start m.1 m.0 m.3 in elim (eq-or-lt_of_le l) [
      | inl e ↦ rw (← e) (m.2.1 nan ∙ answer.1)
      | inr later ↦ from (start + 1) n (subst (λ (k : G). IsFromFnResultFrom calls k xs (start + 1) n) answer.0 m.4) i (omega arith) (omega arith)
    ]

-- one group more: `group` was read from `xs` at `place`, and `result`, which came of it, was put there
pub each_group : {R : Float → Float → Type 0} {xs ys zs group result : List Float} {place n : ℕ} → Each R place xs ys
    → Filled (λ k. get_or xs (place + k) nan) n group → Each R n group result → Put place n result ys zs → Each R (place + n) xs zs
each_group {R} {xs} {ys} {zs} {group} {result} {place} {n} f g r p = record { each = λ i h. go i h (dec_le place i) }
  where
    later : (i k : ℕ) → i ≡ place + k → k < n → R (get_or xs i nan) (get_or zs i nan)
    later i k e h =
        subst (λ (j : ℕ). R (get_or xs j nan) (get_or zs j nan)) (sym e)
        (subst (R (get_or xs (place + k) nan)) (sym (p.stored k h)) (subst (λ (x : Float). R x (get_or result k nan)) (g.each k h) (r.each k h)))

    go : (i : ℕ) → i < place + n → Dec (place ≤ i) → R (get_or xs i nan) (get_or zs i nan)
    go i h (yes l) = later i (i - place) (omega (arith, l)) (omega (arith, l, h))
    go i h (no l) = subst (R (get_or xs i nan)) (sym (p.same i (omega (arith, l)))) (f.each i (omega (arith, l)))

-- ---- the turns of a sum
pub each_begun : (n : ℕ) (xs : List Float) (p : Float) → p ≡ of_whole 1 /ᶠ of_whole 21 → Each (Begun 10) n xs (replicate n p)
unfolding Begun
each_begun n xs p e = record { each = λ i h. ap (series 10 (get_or xs i nan *ᶠ get_or xs i nan)) (get_or-replicate n i p nan h ∙ e) }

pub each_turned : (k : ℕ) {n : ℕ} {xs squares sums next : List Float} {term : Float} → term ≡ of_whole 1 /ᶠ of_whole (2 * k + 1)
    → Filled (λ i. get_or xs i nan *ᶠ get_or xs i nan) n squares → Each (Begun (suc k)) n xs sums → Filled (λ i. get_or sums i nan *ᶠ get_or squares i nan +ᶠ term) n next
    → Each (Begun k) n xs next
unfolding Begun series
each_turned k {n} {xs} {squares} {sums} {next} {term} e z f t = record {
  each = λ i h. ap (series k (get_or xs i nan *ᶠ get_or xs i nan)) (t.each i h ∙ ap₂ (λ (u v : Float). get_or sums i nan *ᶠ u +ᶠ v) (z.each i h) e) ∙ f.each i h;
}
