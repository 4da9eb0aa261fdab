-- Laws of what a ball cuts from a span: a span with no end inside stays as it is, and what is not inside a wider reach is not inside. Assumes nothing.
use Rattle.std.proofs.Common.{◌≡◌, Bool, true, false, cond, not, ◌||◌, T, sym, refl, subst, true≢false, ◌∙◌}
use mathlib.Core.Bool.{false≢true}
use lib.Ieee.{Float, nan, inf, fin, binary64, add, sub, neg}
use lib.Ieee.Fits.{and_i, and_l, and_r}
use Rattle.floats.proofs.Order.Laws.{number, le_left, le_right, le_reflexive, le_transitive}
use Rattle.floats.proofs.Order.Sums.{add_le, add_finite, sub_le, sub_le_both}
use Rattle.floats.specs.Numbers.{◌+ᶠ◌, ◌-ᶠ◌, ◌≤ᶠ◌}
use Rattle.floats.specs.Finite.{finite}
use Rattle.candidate_sides.specs.declared.Span.{Span}
use Rattle.candidate_sides.specs.Slabs.{far2, inside, moved, cut_ends, cut_by_root}
use Rattle.candidate_sides.specs.Inner.Slab.{about, within, cut_by}

pub ends_outside : (s : Span) (c w : Float) → inside c w s.lo ≡ false → inside c w s.hi ≡ false → cut_ends s c w ≡ s
unfolding cut_ends moved
ends_outside s c w p q = rw (p, q) refl

neither : (a b : Bool) → (a || b) ≡ false → (a ≡ false) × (b ≡ false)
neither false false r = (refl, refl)
neither false true r = absurd (true≢false r)
neither true b r = absurd (true≢false r)

-- by the root: an end lies in the slab or none does, and the far distance is finite or not
module _ (s slab : Span) (c w : Float) (around : slab ≡ about c w) where
  pub root_cut : {f : Float} {b : Bool} {r : Span} → f ≡ far2 s c → b ≡ finite f → b ≡ true → r ≡ cut_by slab s → r ≡ cut_by_root s c w
  unfolding cut_by_root cut_ends moved inside
  root_cut e g t q = q ∙ (rw (around, ← e, ← g, t) refl)

  pub root_far : {f : Float} {b : Bool} → f ≡ far2 s c → b ≡ finite f → b ≡ false → s ≡ cut_by_root s c w
  unfolding cut_by_root
  root_far e g t = rw (← e, ← g, t) refl

  pub root_outside : {b : Bool} → b ≡ (within slab s.lo || within slab s.hi) → b ≡ false → s ≡ cut_by_root s c w
  unfolding cut_by_root inside
  root_outside e f = side (finite (far2 s c))
    where
      side : (t : Bool) → s ≡ cond t (cut_ends s c w) s
      side true =
          let p : (inside c w s.lo || inside c w s.hi) ≡ false = rw around at (sym e ∙ f) in
          let n = neither _ _ p in
          sym (ends_outside s c w n.0 n.1)
      side false = refl

-- ---- a wider reach
summand : (c y : Float) → T (number (c +ᶠ y)) → T (number c)
unfolding add
summand nan y h = absurd h
summand (inf t) y h = tt
summand (fin t m e) y h = tt

module _ (c w u v : Float) (wider : T (w ≤ᶠ u)) (bounded : T (finite u)) where
  low_wider : T (c -ᶠ w ≤ᶠ v) → T (c -ᶠ u ≤ᶠ v)
  unfolding sub
  low_wider h =
      let n = le_left (c -ᶠ w) v h in
      let r = le_reflexive c (summand c (neg w) n) in
      le_transitive (c -ᶠ u) (c -ᶠ w) v (sub_le_both binary64 c u c w r wider (le_left (c -ᶠ u) (c -ᶠ u) (sub_le binary64 c c u bounded r)) n) h

  high_wider : T (v ≤ᶠ c +ᶠ w) → T (v ≤ᶠ c +ᶠ u)
  high_wider h =
      let n = le_right v (c +ᶠ w) h in
      let k = summand c w n in
      le_transitive v (c +ᶠ w) (c +ᶠ u) h (add_le binary64 c w c u (le_reflexive c k) wider n (add_finite binary64 c u k bounded))

  -- what is inside is inside the wider reach
  inside_wider : T (inside c w v) → T (inside c u v)
  unfolding inside
  inside_wider h = and_i (c -ᶠ u ≤ᶠ v) (v ≤ᶠ c +ᶠ u) (low_wider (and_l (c -ᶠ w ≤ᶠ v) (v ≤ᶠ c +ᶠ w) h)) (high_wider (and_r (c -ᶠ w ≤ᶠ v) (v ≤ᶠ c +ᶠ w) h))

  not_inside : inside c u v ≡ false → inside c w v ≡ false
  not_inside e = side (inside c w v) (inside c u v) inside_wider e
    where
      side : (a b : Bool) → (T a → T b) → b ≡ false → a ≡ false
      side false b f e = refl
      side true b f e = absurd (subst T e (f tt))

pub nothing_cut : (s : Span) (c w u : Float) → T (w ≤ᶠ u) → T (finite u) → not (inside c u s.lo || inside c u s.hi) ≡ true → cut_ends s c w ≡ s
nothing_cut s c w u l f e =
    let n = neither (inside c u s.lo) (inside c u s.hi) (negated (inside c u s.lo || inside c u s.hi) e) in
    ends_outside s c w (not_inside c w u s.lo l f n.0) (not_inside c w u s.hi l f n.1)
  where
    negated : (a : Bool) → not a ≡ true → a ≡ false
    negated false e = refl
    negated true e = absurd (false≢true e)
