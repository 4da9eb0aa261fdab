-- Laws of slots: what stores in one do, that the others stay, and loops over them. Assumes nothing.
use Rattle.std.proofs.Common.{◌≡◌, ℕ, suc, ◌+◌, ◌≤◌, ◌<◌, List, [], ◌∷◌, ◌++◌, length, get_or, set, length-set, add-one, refl, sym, ap, ◌∙◌, subst, arith, get_or-set_same, get_or-set_other}
use lib.Seq.{drop-set-lt, get_or-drop, get_or-take}
use lib.Ieee.{Float, nan}
use mathlib.Core.Logic.{⊎_elim}
use native.Mathlib.Nat.{eq-or-lt_of_le, le_of_suc-le-suc}
use Rattle.areas.specs.Parts.{part}
use Rattle.areas.proofs.PartLaws.{part_at, push, part_suc, frame_refl, frame_set, frame_wide}
use Rattle.candidate.specs.declared.Candidate.{Candidate}
use Rattle.candidate.specs.Boxes.{at}
use Rattle.candidate.specs.Balls.{held_at}
use Rattle.search_rules.specs.declared.Facing.{Facing}
use Rattle.functional.specs.Inner.Held.{Slots, slot_at, box_at, facing_at, ball_floats, four_put, put_box, put_facing, Copied, Balled, Mapped}

-- ---- a loop over the slots
pub mapped_more : {h : ℕ → List Float → List Float} {x y z : Slots} {j : ℕ} {slot : List Float} → Mapped h x y j → j < length y → z ≡ set y j slot → slot ≡ h j (slot_at y j) → Mapped h x z (j + 1)
mapped_more {h} {x} {y} {z} {j} {slot} r l q e =
    record {
      done = λ i g. ⊎_elim
          (λ p. rw p (ap (λ (v : Slots). slot_at v j) q ∙ get_or-set_same y j slot [] l ∙ e ∙ ap (h j) (r.rest j (omega arith))))
          (λ m. rw q (get_or-set_other y j i slot [] (omega arith)) ∙ r.done i m)
          (eq-or-lt_of_le (le_of_suc-le-suc (before g)));
      rest = λ i g. rw q (get_or-set_other y j i slot [] (omega arith)) ∙ r.rest i (omega arith);
      long = rw q (length-set y j slot) ∙ r.long;
    }
  where
    before : {i : ℕ} → i < j + 1 → i < suc j
    before l = omega arith

pub mapped_all : {h : ℕ → List Float → List Float} {x y : Slots} {j : ℕ} → Mapped h x y j → length x ≤ j → j ≤ length x → Mapped h x y (length x)
mapped_all {h} {x} {y} {j} r a b = let e : j ≡ length x = omega arith in subst (λ (n : ℕ). Mapped h x y n) e r

-- ---- what stands where after four stores
four_first : (slot : List Float) (p : ℕ) (a b c d : Float) → p < length slot → get_or (four_put slot p a b c d) p nan ≡ a
unfolding four_put
four_first slot p a b c d h =
    let s₁ = set slot p a in
    let s₂ = set s₁ (p + 1) b in
    let s₃ = set s₂ (p + 2) c in
    get_or-set_other s₃ (p + 3) p d nan (omega arith)
    ∙ get_or-set_other s₂ (p + 2) p c nan (omega arith)
    ∙ get_or-set_other s₁ (p + 1) p b nan (omega arith)
    ∙ get_or-set_same slot p a nan h

four_second : (slot : List Float) (p : ℕ) (a b c d : Float) → p + 1 < length slot → get_or (four_put slot p a b c d) (p + 1) nan ≡ b
unfolding four_put
four_second slot p a b c d h =
    let s₁ = set slot p a in
    let s₂ = set s₁ (p + 1) b in
    let s₃ = set s₂ (p + 2) c in
    get_or-set_other s₃ (p + 3) (p + 1) d nan (omega arith)
    ∙ get_or-set_other s₂ (p + 2) (p + 1) c nan (omega arith)
    ∙ get_or-set_same (set slot p a) (p + 1) b nan (simp length-set h)

four_third : (slot : List Float) (p : ℕ) (a b c d : Float) → p + 2 < length slot → get_or (four_put slot p a b c d) (p + 2) nan ≡ c
unfolding four_put
four_third slot p a b c d h =
    let s₁ = set slot p a in
    let s₂ = set s₁ (p + 1) b in
    let s₃ = set s₂ (p + 2) c in
    get_or-set_other s₃ (p + 3) (p + 2) d nan (omega arith)
    ∙ get_or-set_same (set (set slot p a) (p + 1) b) (p + 2) c nan (simp length-set h)

four_fourth : (slot : List Float) (p : ℕ) (a b c d : Float) → p + 3 < length slot → get_or (four_put slot p a b c d) (p + 3) nan ≡ d
unfolding four_put
four_fourth slot p a b c d h = get_or-set_same (set (set (set slot p a) (p + 1) b) (p + 2) c) (p + 3) d nan (simp length-set h)

four_before : (slot : List Float) (p i : ℕ) (a b c d : Float) → i < p → get_or (four_put slot p a b c d) i nan ≡ get_or slot i nan
unfolding four_put
four_before slot p i a b c d h =
    let s₁ = set slot p a in
    let s₂ = set s₁ (p + 1) b in
    let s₃ = set s₂ (p + 2) c in
    get_or-set_other s₃ (p + 3) i d nan (omega arith)
    ∙ get_or-set_other s₂ (p + 2) i c nan (omega arith)
    ∙ get_or-set_other s₁ (p + 1) i b nan (omega arith)
    ∙ get_or-set_other slot p i a nan (omega arith)

four_balls : (slot : List Float) (p : ℕ) (a b c d : Float) → p ≤ 4 → ball_floats (four_put slot p a b c d) ≡ ball_floats slot
unfolding four_put
four_balls slot p a b c d h =
    let s₁ = set slot p a in
    let s₂ = set s₁ (p + 1) b in
    let s₃ = set s₂ (p + 2) c in
    drop-set-lt 8 s₃ (p + 3) d (omega arith)
    ∙ drop-set-lt 8 s₂ (p + 2) c (omega arith)
    ∙ drop-set-lt 8 s₁ (p + 1) b (omega arith)
    ∙ drop-set-lt 8 slot p a (omega arith)

-- a slot keeps its length
four_long : (slot : List Float) (p : ℕ) (a b c d : Float) → length (four_put slot p a b c d) ≡ length slot
unfolding four_put
four_long slot p a b c d = simp length-set

pub facing_long : (slot : List Float) (x : Facing) → length (put_facing slot x) ≡ length slot
unfolding put_facing
facing_long slot x = four_long slot 4 x.cx x.cy x.outer x.inner

-- ---- a box, a ball, and the balls' floats beside them
pub box_put : (slot : List Float) (x : Candidate) → length slot ≡ 200 → box_at (put_box slot x) ≡ record { lo = at x.lo 0 ∷ at x.lo 1 ∷ []; hi = at x.hi 0 ∷ at x.hi 1 ∷ [] }
unfolding box_at put_box
box_put slot x h =
    let a = at x.lo 0 in
    let b = at x.hi 0 in
    let c = at x.lo 1 in
    let d = at x.hi 1 in
    rw (four_first slot 0 a b c d (omega arith), four_second slot 0 a b c d (omega arith), four_third slot 0 a b c d (omega arith), four_fourth slot 0 a b c d (omega arith)) refl

pub balls_beside_box : (slot : List Float) (x : Candidate) → ball_floats (put_box slot x) ≡ ball_floats slot
unfolding put_box
balls_beside_box slot x = four_balls slot 0 (at x.lo 0) (at x.hi 0) (at x.lo 1) (at x.hi 1) (omega arith)

pub facing_put : (slot : List Float) (x : Facing) → length slot ≡ 200 → facing_at (put_facing slot x) ≡ x
unfolding facing_at put_facing
facing_put slot x h =
    rw (four_first slot 4 x.cx x.cy x.outer x.inner (omega arith), four_second slot 4 x.cx x.cy x.outer x.inner (omega arith), four_third slot 4 x.cx x.cy x.outer x.inner (omega arith), four_fourth slot 4 x.cx x.cy x.outer x.inner (omega arith)) refl

pub box_beside_facing : (slot : List Float) (x : Facing) → box_at (put_facing slot x) ≡ box_at slot
unfolding box_at put_facing
box_beside_facing slot x =
    rw (four_before slot 4 0 x.cx x.cy x.outer x.inner (omega arith), four_before slot 4 1 x.cx x.cy x.outer x.inner (omega arith), four_before slot 4 2 x.cx x.cy x.outer x.inner (omega arith), four_before slot 4 3 x.cx x.cy x.outer x.inner (omega arith)) refl

pub balls_beside_facing : (slot : List Float) (x : Facing) → ball_floats (put_facing slot x) ≡ ball_floats slot
unfolding put_facing
balls_beside_facing slot x = four_balls slot 4 x.cx x.cy x.outer x.inner (omega arith)

-- ---- a run of floats copied, one after the other
pub copied_none : (area xs : List Float) (to place : ℕ) → Copied area area to (part xs place 0) 0
unfolding part
copied_none area xs to place = record { here = refl; frame = frame_refl area to 0 }

pub copied_more : {x y : List Float} (xs : List Float) (to place i p : ℕ) (v : Float) → Copied x y to (part xs place i) i → p ≡ to + i → p < length y → place + i < length xs
    → v ≡ get_or xs (place + i) nan → Copied x (set y p v) to (part xs place (i + 1)) (i + 1)
copied_more {x} {y} xs to place i p v r e h l q =
    record {
      here =
          push y to i p v e h
          ∙ ap (λ (l : List Float). l ++ (v ∷ [])) r.here
          ∙ ap (λ (w : Float). part xs place i ++ (w ∷ [])) q
          ∙ sym (part_suc xs place i nan l)
          ∙ ap (part xs place) (sym (add-one i));
      frame = frame_set p v (frame_wide to (i + 1) r.frame (omega arith) (omega arith)) (omega arith) (omega arith);
    }

pub copied_all : {x y : List Float} (xs : List Float) (to place : ℕ) {i count : ℕ} → i ≡ count → Copied x y to (part xs place i) i → Copied x y to (part xs place count) count
copied_all {x} {y} xs to place e r = subst (λ (k : ℕ). Copied x y to (part xs place k) k) e r

copied_at : {x y xs : List Float} {to count : ℕ} (i : ℕ) → Copied x y to xs count → i < count → get_or y (to + i) nan ≡ get_or xs i nan
copied_at {x} {y} {xs} {to} {count} i r h = part_at y to count i nan h ∙ ap (λ (l : List Float). get_or l i nan) r.here

copied_below : {x y xs : List Float} {to count : ℕ} (p : ℕ) → Copied x y to xs count → p < to → get_or y p nan ≡ get_or x p nan
copied_below {x} {y} {xs} {to} p r h = sym (get_or-take to y p nan h) ∙ ap (λ (l : List Float). get_or l p nan) r.frame.front ∙ get_or-take to x p nan h

-- ---- the balls of a slot
run_read : {x y : List Float} (from : List Float) (place count i p : ℕ) → Copied x y (8 + place) (part from place count) count → i < count → p ≡ 8 + place + i → get_or y p nan ≡ get_or from (place + i) nan
run_read from place count i p c h e = rw e (copied_at i c h ∙ sym (part_at from place count i nan h))

-- three runs copied into it
pub balled : (x₀ x₁ x₂ x₃ from : List Float) (count : ℕ) → count ≤ 64 → Copied x₀ x₁ 8 (part from 0 count) count → Copied x₁ x₂ 72 (part from 64 count) count → Copied x₂ x₃ 136 (part from 128 count) count
    → Balled x₀ x₃ from count
unfolding held_at box_at
balled x₀ x₁ x₂ x₃ from count few c₀ c₁ c₂ =
    record {
      balls = λ i h. rw (
        get_or-drop 8 x₃ (0 + i) nan ∙ copied_below (8 + (0 + i)) c₂ (omega arith) ∙ copied_below (8 + (0 + i)) c₁ (omega arith) ∙ run_read from 0 count i (8 + (0 + i)) c₀ h (omega arith),
        get_or-drop 8 x₃ (0 + 64 + i) nan ∙ copied_below (8 + (0 + 64 + i)) c₂ (omega arith) ∙ run_read from 64 count i (8 + (0 + 64 + i)) c₁ h (omega arith),
        get_or-drop 8 x₃ (0 + 128 + i) nan ∙ run_read from 128 count i (8 + (0 + 128 + i)) c₂ h (omega arith),
      ) refl;
      box = rw (low 0 (omega arith), low 1 (omega arith), low 2 (omega arith), low 3 (omega arith)) refl;
      long = c₂.frame.long ∙ c₁.frame.long ∙ c₀.frame.long;
    }
  where
    low : (p : ℕ) → p < 8 → get_or x₃ p nan ≡ get_or x₀ p nan
    low p h = copied_below p c₂ (omega arith) ∙ copied_below p c₁ (omega arith) ∙ copied_below p c₀ (omega arith)
