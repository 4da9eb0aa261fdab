-- The values next to a pivot: the loop that finds one, by one law for both sides, and its rank. Assumes nothing.
use Prim.Native.Nat.{ℕ, ◌+◌, ◌≤◌, ◌<◌}
use mathlib.Core.Path.{◌≡◌, refl, sym, ap, ◌∙◌, subst}
use mathlib.Core.Bool.{Bool, true, false, not, ◌&&◌, cond, false≢true, true≢false}
use mathlib.Core.Logic.{◌⊎◌, inl, inr}
use mathlib.Core.List.{List}
use native.Mathlib.Nat.{lt_of_lt_of_le, le_trans}
use native.Mathlib.Numerals.{add-one}
use native.Mathlib.Omega.{arith}
use lib.Dec.{T}
use lib.ListN.{length, get_or, take}
use lib.Seq.{take-length}
use lib.Ieee.{Float, nan, of_bits, lt, le}
use lib.Ieee.Bits.{is_true}
use Rattle.logic.proofs.Laws.{both}
use Rattle.floats.specs.Numbers.{+0, +∞}
use Rattle.floats.specs.Ahead.{ahead}
use Rattle.floats.proofs.Order.Laws.{number, le_left, lt→le, le_transitive, lt_irreflexive, lt_not_le}
use Rattle.medians.specs.Inner.Ranks.{count, Each, magnitude, count_below, count_upto, ranked_of}
use Rattle.medians.specs.Inner.Rounds.{Among, Strict, Nearest, Largest, Smallest}
use Rattle.medians.proofs.OrderLaws.{holds, lt_transitive, ahead_of_number, none_ahead_of_itself}
use Rattle.medians.proofs.CountLaws.{one, count_more, count_most, count_weaker, count_none, count_implied, count_strict}
use Rattle.medians.proofs.RankLaws.{by_counts, none_below_zero, pattern_magnitude}
use Rattle.medians.proofs.RoundLaws.{never_both, above_else, number_left, number_right}

-- ---- the loop, on either side
module _ (side : Float → Bool) (nearer : Float → Float → Bool) (start : Float) (strict : Strict nearer) (xs : List Float) where
  pub nearest_none : Nearest side nearer start xs 0 start
  unfolding count
  nearest_none = record { none = refl; one = inl refl }

  module _ {i : ℕ} {r : Float} (w : Nearest side nearer start xs i r) (h : i < length xs) where
    abbrev v : Float
    v = get_or xs i nan

    -- none is nearer than `s` where none before is, and the value at the index `i` is not
    none_more : (s : Float) → count (λ (y : Float). side y && nearer y s) (take i xs) ≤ 0 → (side v && nearer v s) ≡ false → count (λ (y : Float). side y && nearer y s) (take (i + 1) xs) ≡ 0
    none_more s k e = rw add-one (omega (arith, k, count_more (λ (y : Float). side y && nearer y s) xs i h ∙ ap (λ (b : Bool). count (λ (y : Float). side y && nearer y s) (take i xs) + one b) e))

    -- what is nearer than `s`, which is nearer than `r`, is nearer than `r`
    none_nearer : (s : Float) → nearer s r ≡ true → count (λ (y : Float). side y && nearer y s) (take i xs) ≤ 0
    none_nearer s e = omega (arith, w.none, count_weaker (λ (y : Float). side y && nearer y s) (λ (y : Float). side y && nearer y r) (take i xs) (λ y t. let b = both (side y) (nearer y s) t in rw b.0 (strict.further y s r b.1 e)))

    still_one : ((r ≡ start) ⊎ Among side xs i r) → (r ≡ start) ⊎ Among side xs (i + 1) r
    still_one (inl e) = inl e
    still_one (inr m) = inr (record { at = m.at; inside = omega (arith, m.inside); there = m.there; aside = m.aside })

    turn : (a b : Bool) → side v ≡ a → nearer (cond a v start) r ≡ b → Nearest side nearer start xs (i + 1) (cond b (cond a v start) r)
    turn true true e f = record { none = none_more v (none_nearer v f) (rw e (strict.apart v)); one = inr (record { at = i; inside = omega arith; there = refl; aside = e }) }
    turn false true e f = record { none = none_more start (none_nearer start f) (rw e refl); one = inl refl }
    turn true false e f = record { none = none_more r (omega (arith, w.none)) (rw e f); one = still_one w.one }
    turn false false e f = record { none = none_more r (omega (arith, w.none)) (rw e refl); one = still_one w.one }

    pub nearest_more : {a b : Bool} {candidate best : Float} → a ≡ side v → candidate ≡ cond a v start → b ≡ nearer candidate r → best ≡ cond b candidate r → Nearest side nearer start xs (i + 1) best
    nearest_more {a} {b} {candidate} {best} e f g h =
        let from : cond b (cond a v start) r ≡ best = ap (λ (z : Float). cond b z r) (sym f) ∙ sym h in
        subst (Nearest side nearer start xs (i + 1)) from (turn a b (sym e) (sym (g ∙ ap (λ (z : Float). nearer z r) f)))

pub nearest_all : {side : Float → Bool} {nearer : Float → Float → Bool} {start : Float} {xs : List Float} {i : ℕ} {r : Float} → Nearest side nearer start xs i r → i ≡ length xs → Nearest side nearer start xs (length xs) r
nearest_all {side} {nearer} {start} {xs} {i} {r} w e = subst (λ (n : ℕ). Nearest side nearer start xs n r) e w

never_below_itself : (x : Float) → lt x x ≡ false
never_below_itself x = step (lt x x) refl
  where
    step : (b : Bool) → lt x x ≡ b → lt x x ≡ false
    step true e = absurd (lt_irreflexive x (holds e))
    step false e = e

-- ---- both orders
pub strict_up : Strict (λ (y z : Float). lt y z)
strict_up = record { further = lt_transitive; apart = never_below_itself }

pub strict_down : Strict (λ (y z : Float). lt z y)
strict_down = record { further = λ a b c e f. lt_transitive c b a f e; apart = never_below_itself }

-- ---- the rank of what is found
module _ (x : Float) (xs : List Float) (m : Each magnitude xs) (r : Float) (k : ℕ) where
  -- the same of all values
  whole : (p : Float → Bool) → count p (take (length xs) xs) ≡ 0 → count p xs ≡ 0
  whole p e = ap (count p) (sym (take-length xs)) ∙ e

  -- `r` is a value of the rank `k`, a number `g` without a sign
  ranked_as : T (number r) → magnitude r ≡ true → count_below r xs ≤ k → k < count (λ (y : Float). not (ahead r y)) xs → k < length xs → r ≡ ranked_of xs k
  ranked_as n g few many inside = by_counts xs k r inside (le_trans (count_implied (λ (y : Float). ahead y r) (λ (y : Float). lt y r) xs (λ i l e. sym (ahead_of_number (get_or xs i nan) r n) ∙ e)) few) many m g

  pub largest_found : Largest x xs (length xs) r → k + 1 ≡ count_below x xs → k < length xs → r ≡ ranked_of xs k
  unfolding of_bits
  largest_found w e inside = step w.one
    where
      many : k < count (λ (y : Float). not (ahead r y)) xs
      many = lt_of_lt_of_le (omega (arith, e)) (count_implied (λ (y : Float). lt y x) (λ (y : Float). not (ahead r y)) xs (λ i l t. ap not (ahead_of_number r (get_or xs i nan) (number_left (get_or xs i nan) x t) ∙ other (lt (get_or xs i nan) x) (lt r (get_or xs i nan)) t (count_none (λ (y : Float). lt y x && lt r y) xs i (whole (λ (y : Float). lt y x && lt r y) w.none) l))))
        where
          other : (a b : Bool) → a ≡ true → (a && b) ≡ false → b ≡ false
          other true b t f = f
          other false b t f = absurd (false≢true t)

      step : ((r ≡ +0) ⊎ Among (λ (y : Float). lt y x) xs (length xs) r) → r ≡ ranked_of xs k
      step (inl z) = ranked_as (rw z tt) (ap magnitude z ∙ pattern_magnitude 0 (omega arith)) (omega (arith, count_most (λ (y : Float). lt y r) xs 0 (λ i l h. ap (lt (get_or xs i nan)) z ∙ none_below_zero (get_or xs i nan) (m.each i h)))) many inside
      step (inr a) = ranked_as (number_left r x a.aside) (ap magnitude (sym a.there) ∙ m.each a.at a.inside) (omega (arith, e, count_strict (λ (y : Float). lt y r) (λ (y : Float). lt y x) xs a.at (λ y h. lt_transitive y r x h a.aside) a.inside (ap (λ (z : Float). lt z r) a.there ∙ never_below_itself r) (ap (λ (z : Float). lt z x) a.there ∙ a.aside))) many inside

  pub smallest_found : T (number x) → Smallest x xs (length xs) r → lt r +∞ ≡ true → count_upto x xs ≡ k → k < length xs → r ≡ ranked_of xs k
  smallest_found n w h e inside = step w.one
    where
      step : ((r ≡ +∞) ⊎ Among (λ (y : Float). lt x y) xs (length xs) r) → r ≡ ranked_of xs k
      step (inl z) = absurd (false≢true (sym (never_below_itself +∞) ∙ ap (λ (y : Float). lt y +∞) (sym z) ∙ h))
      step (inr a) =
          let i = a.at in
          let l = a.inside in
          let f = a.there in
          let t = a.aside in
          ranked_as (number_right x r t) (ap magnitude (sym f) ∙ m.each i l)
          (omega (arith, e, count_implied (λ (y : Float). lt y r) (λ (y : Float). le y x) xs (λ j q s. at_most (get_or xs j nan) s (count_none (λ (y : Float). lt x y && lt y r) xs j (whole (λ (y : Float). lt x y && lt y r) w.none) q))))
          (rw (← e) (count_strict (λ (y : Float). le y x) (λ (y : Float). not (ahead r y)) xs i (not_behind t) l (ap (λ (z : Float). le z x) f ∙ not_upto t) (ap (λ (z : Float). not (ahead r z)) f ∙ ap not (none_ahead_of_itself r))))
          inside
        where
          at_most : (y : Float) → lt y r ≡ true → (lt x y && lt y r) ≡ false → le y x ≡ true
          at_most y s z = pick (le y x) refl
            where
              pick : (b : Bool) → le y x ≡ b → le y x ≡ true
              pick true g = g
              pick false g = absurd (true≢false (sym (rw (above_else x y n (number_left y r s) g, s) refl) ∙ z))

          not_upto : lt x r ≡ true → le r x ≡ false
          not_upto t = pick (le r x) refl
            where
              pick : (b : Bool) → le r x ≡ b → le r x ≡ false
              pick false g = g
              pick true g = absurd (lt_not_le x r (holds t) (holds g))

          not_behind : lt x r ≡ true → (y : Float) → le y x ≡ true → not (ahead r y) ≡ true
          not_behind t y g = ap not (ahead_of_number r y (le_left y x (holds g)) ∙ never_both r y (is_true (le y r) (le_transitive y x r (holds g) (lt→le x r (holds t)))))
