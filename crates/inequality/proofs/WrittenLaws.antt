-- Laws of values that were written, and of what a frame leaves at an index. Assumes nothing.
use Prim.Native.Nat.{ℕ, ◌+◌, ◌-◌, ◌≤◌, ◌<◌}
use mathlib.Core.Path.{◌≡◌, sym, ap, ◌∙◌, subst}
use mathlib.Core.List.{List}
use native.Mathlib.Omega.{arith}
use lib.ListN.{length, get_or}
use lib.Seq.{get_or-take, get_or-drop, ext_get_or}
use Rattle.areas.specs.Parts.{part, tab, Frame}
use Rattle.areas.proofs.PartLaws.{part_at, part_length, tab_at, tab_length}
use Rattle.inequality.specs.Inner.Weights.{Written}

module _ {A : Type 0} where
  -- ---- an index outside a frame
  pub at_front : {x y : List A} {b n : ℕ} (i : ℕ) (d : A) → Frame x y b n → i < b → get_or y i d ≡ get_or x i d
  at_front {x} {y} {b} i d f h = sym (get_or-take b y i d h) ∙ ap (λ (l : List A). get_or l i d) f.front ∙ get_or-take b x i d h

  pub at_back : {x y : List A} {b n : ℕ} (i : ℕ) (d : A) → Frame x y b n → b + n ≤ i → get_or y i d ≡ get_or x i d
  at_back {x} {y} {b} {n} i d f h =
      let e : b + n + (i - (b + n)) ≡ i = omega arith in
      ap (λ (k : ℕ). get_or y k d) (sym e)
      ∙ sym (get_or-drop (b + n) y (i - (b + n)) d)
      ∙ ap (λ (l : List A). get_or l (i - (b + n)) d) f.back
      ∙ get_or-drop (b + n) x (i - (b + n)) d
      ∙ ap (λ (k : ℕ). get_or x k d) e

  -- ---- values written
  pub written_all : {x y : List A} {b : ℕ} {g : ℕ → A} {i j : ℕ} → i ≡ j → Written x y b g i → Written x y b g j
  written_all {x} {y} {b} {g} e w = subst (λ (k : ℕ). Written x y b g k) e w

  pub written_at : {x y : List A} {b : ℕ} {g : ℕ → A} {n : ℕ} (j : ℕ) (d : A) → Written x y b g n → j < n → get_or y (b + j) d ≡ g j
  written_at {x} {y} {b} {g} {n} j d w h = part_at y b n j d h ∙ ap (λ (l : List A). get_or l j d) w.held ∙ tab_at g n j d h

  -- from what stands at each index
  pub written_by : {x y : List A} {b n : ℕ} (g : ℕ → A) (d : A) → Frame x y b n → b + n ≤ length y → ((j : ℕ) → j < n → get_or y (b + j) d ≡ g j) → Written x y b g n
  written_by {x} {y} {b} {n} g d f h e =
      record {
        held =
            ext_get_or d (part y b n) (tab g n) (part_length y b n h ∙ sym (tab_length g n))
            (λ i l. let k : i < n = rw (part_length y b n h) at l in sym (part_at y b n i d k) ∙ e i k ∙ sym (tab_at g n i d k));
        frame = f;
      }
