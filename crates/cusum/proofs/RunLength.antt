-- `run_length` answers the reading at which the level is first heard, and that reading alone; where it is not heard, no reading up to 4,096 is over. Assumes nothing.
use mathlib.Core.Path.{◌≡◌, refl, sym, ap, ◌∙◌}
use Prim.Native.Nat.{ℕ, zero, suc, ◌+◌, ◌≤◌, ◌<◌}
use native.Mathlib.Omega.{arith}
use native.Mathlib.Nat.{eq-or-lt_of_le}
use mathlib.Core.Bool.{Bool, true, false, not}
use mathlib.Core.Logic.{inl, inr}
use mathlib.Core.List.{[], ◌∷◌}
use lib.Dec.{T}
use lib.Ieee.{Float}
use Rattle.logic.proofs.Laws.{clash}
use Rattle.floats.specs.Numbers.{◌<ᶠ◌}
use Rattle.cusum.specs.declared.Cusum.{Cusum}
use Rattle.charts.specs.declared.Sum.{Sum}
use Rattle.cusum.specs.RunLength.{sum_of, fed, heard_from, heard}
use Rattle.cusum.specs.Promise.{FirstHeard}
use Rattle.cusum.proofs.Hearing.{heard_now, heard_later}

module _ (c : Cusum) (v : Float) (asked : Sum) where
  -- whether the sum is above h after `m` readings of the level `v`
  abbrev over : ℕ → Bool
  over m = c.h <ᶠ sum_of asked (fed c v m)

  -- of the readings `m + 1` to `m + k`, `n` is the first that is over
  record Found (k m n : ℕ) : Type 0 where
    after : m < n
    within : n ≤ m + k
    over_at : T (over n)
    before : (j : ℕ) → m < j → j < n → T (not (over j))

  -- one reading more in front, which is not over
  found_later : (k m n : ℕ) → over (suc m) ≡ false → Found k (suc m) n → Found (suc k) m n
  found_later k m n e f =
      record {
        after = omega (arith, f.after);
        within = omega (arith, f.within);
        over_at = f.over_at;
        before = λ j g h. elim (eq-or-lt_of_le g) [ inl q ↦ rw (← q, e) tt | inr l ↦ f.before j l h ];
      }

  -- what is found is what is heard
  heard_found : (k m n : ℕ) → heard_from c v asked k m (fed c v m) ≡ n ∷ [] → Found k m n
  unfolding fed heard_from
  heard_found zero m n e = absurd (empty e)
    where
      empty : [] ≡ n ∷ [] → ⊥
      empty e = clash cc
  heard_found (suc k) m n e = go (over (suc m)) refl (heard_found k (suc m) n)
    where
      go : (b : Bool) → over (suc m) ≡ b → (heard_from c v asked k (suc m) (fed c v (suc m)) ≡ n ∷ [] → Found k (suc m) n) → Found (suc k) m n
      go true t ih =
          let q : suc m ≡ n = cc (sym (heard_now c v asked k m (fed c v m) t) ∙ e) in
          record { after = omega (arith, q); within = omega (arith, q); over_at = rw (← q, t) tt; before = λ j g h. absurd (none j g h q) }
        where
          none : (j : ℕ) → m < j → j < n → suc m ≡ n → ⊥
          none j g h q = omega arith
      go false t ih = found_later k m n t (ih (sym (heard_later c v asked k m (fed c v m) t) ∙ e))

  found_heard : (k m n : ℕ) → Found k m n → heard_from c v asked k m (fed c v m) ≡ n ∷ []
  unfolding fed heard_from
  found_heard zero m n f = absurd (none f.after f.within)
    where
      none : m < n → n ≤ m + 0 → ⊥
      none g h = omega arith
  found_heard (suc k) m n f = go (over (suc m)) refl (found_heard k (suc m) n)
    where
      go : (b : Bool) → over (suc m) ≡ b → (Found k (suc m) n → heard_from c v asked k (suc m) (fed c v (suc m)) ≡ n ∷ []) → heard_from c v asked (suc k) m (fed c v m) ≡ n ∷ []
      go true t ih = heard_now c v asked k m (fed c v m) t ∙ elim (eq-or-lt_of_le f.after) [ inl q ↦ ap (λ (j : ℕ). j ∷ []) q | inr l ↦ absurd (rw t at (f.before (suc m) (omega arith) l)) ]
      go false t ih =
          heard_later c v asked k m (fed c v m) t
          ∙ ih (record {
            after = elim (eq-or-lt_of_le f.after) [ inl q ↦ absurd (rw (← q, t) at f.over_at) | inr l ↦ l ];
            within = omega (arith, f.within);
            over_at = f.over_at;
            before = λ j g h. f.before j (omega arith) h;
          })

  none_heard : (k m : ℕ) → heard_from c v asked k m (fed c v m) ≡ [] → (j : ℕ) → m < j → j ≤ m + k → T (not (over j))
  unfolding fed heard_from
  none_heard zero m e j g h = absurd (none g h)
    where
      none : m < j → j ≤ m + 0 → ⊥
      none g h = omega arith
  none_heard (suc k) m e j g h = go (over (suc m)) refl (none_heard k (suc m))
    where
      full : suc m ∷ [] ≡ [] → ⊥
      full e = clash cc

      go : (b : Bool) → over (suc m) ≡ b → (heard_from c v asked k (suc m) (fed c v (suc m)) ≡ [] → (i : ℕ) → suc m < i → i ≤ suc m + k → T (not (over i))) → T (not (over j))
      go true t ih = absurd (full (sym (heard_now c v asked k m (fed c v m) t) ∙ e))
      go false t ih = elim (eq-or-lt_of_le g) [
        | inl q ↦ rw (← q, t) tt
        | inr l ↦ ih (sym (heard_later c v asked k m (fed c v m) t) ∙ e) j l (omega arith)
      ]

  -- ---- the laws
  pub heard_is_first : (n : ℕ) → heard c v asked ≡ n ∷ [] → FirstHeard c v asked n × (n ≤ 4096)
  unfolding heard fed
  heard_is_first n e = let f = heard_found 4096 0 n e in (record { reading = f.after; over = f.over_at; before = f.before }, f.within)

  pub first_is_heard : (n : ℕ) → FirstHeard c v asked n → n ≤ 4096 → heard c v asked ≡ n ∷ []
  unfolding heard fed
  first_is_heard n f h = found_heard 4096 0 n (record { after = f.reading; within = h; over_at = f.over; before = f.before })

  pub never_heard : heard c v asked ≡ [] → (m : ℕ) → 0 < m → m ≤ 4096 → T (not (over m))
  unfolding heard fed
  never_heard e m g h = none_heard 4096 0 e m g h
