-- Laws of parts, tables and frames of a flat area: what a read, a store and a loop of stores does to them. A law takes the index as the code has it, with an equation. Assumes nothing.
use Prim.Native.Nat.{ℕ, zero, suc, ◌+◌, ◌-◌, ◌≤◌, ◌<◌}
use mathlib.Core.Path.{◌≡◌, refl, sym, ap, ap₂, ◌∙◌}
use mathlib.Core.List.{List, [], ◌∷◌, ◌++◌}
use native.Mathlib.Nat.{suc-add, le_of_suc-le-suc, not-suc-le-zero, eq-or-lt_of_le}
use native.Mathlib.Numerals.{add-one}
use native.Mathlib.Omega.{arith}
use mathlib.Core.Logic.{⊎_elim}
use lib.ListN.{length, get_or, take, drop, set, length-set, length-take, length-drop, length-append, take-append-drop, get_or-append}
use lib.Seq.{get_or-take, get_or-drop, drop-set-lt, drop-set-add, take-set-le, take-set-lt, take-suc-set, take-take, drop-drop, take-suc, take-add, get_or_at}
use Rattle.areas.specs.Parts.{part, tab, Frame}

pub tab_length : {A : Type 0} (g : ℕ → A) (n : ℕ) → length (tab g n) ≡ n
unfolding tab
tab_length g zero = refl
tab_length g (suc n) = length-append (tab g n) (g n ∷ []) ∙ (rw (tab_length g n, add-one) refl)

module _ {A : Type 0} where
  pub part_at : (xs : List A) (b n i : ℕ) (d : A) → i < n → get_or xs (b + i) d ≡ get_or (part xs b n) i d
  unfolding part
  part_at xs b n i d h = sym (get_or-take n (drop b xs) i d h ∙ get_or-drop b xs i d)

  pub part_length : (xs : List A) (b n : ℕ) → b + n ≤ length xs → length (part xs b n) ≡ n
  unfolding part
  part_length xs b n h = simp (length-take, length-drop) (omega arith)

  pub part_below : (xs : List A) (b n i : ℕ) (v : A) → i < b → part (set xs i v) b n ≡ part xs b n
  unfolding part
  part_below xs b n i v h = ap (take n) (drop-set-lt b xs i v h)

  pub part_above : (xs : List A) (b n i : ℕ) (v : A) → b + n ≤ i → part (set xs i v) b n ≡ part xs b n
  unfolding part
  part_above xs b n i v h =
      let e : b + (i - b) ≡ i = omega arith in
      ap (λ (k : ℕ). take n (drop b (set xs k v))) (sym e)
      ∙ ap (take n) (drop-set-add b xs (i - b) v)
      ∙ take-set-le n (drop b xs) (i - b) v (omega arith)

  pub part_in : (xs : List A) (b n j : ℕ) (v : A) → j < n → part (set xs (b + j) v) b n ≡ set (part xs b n) j v
  unfolding part
  part_in xs b n j v h = ap (take n) (drop-set-add b xs j v) ∙ take-set-lt n (drop b xs) j v h

  pub part_push : (xs : List A) (b j : ℕ) (v : A) → b + j < length xs → part (set xs (b + j) v) b (suc j) ≡ part xs b j ++ (v ∷ [])
  unfolding part
  part_push xs b j v h =
      ap (take (suc j)) (drop-set-add b xs j v)
      ∙ take-suc-set (drop b xs) j v (simp length-drop (omega arith))

  pub part_take : (y : List A) (b b' n : ℕ) → b' + n ≤ b → part (take b y) b' n ≡ part y b' n
  unfolding part
  part_take y b zero n h = take-take n b y (omega arith)
  part_take y zero (suc b') n h = absurd (not-suc-le-zero (rw suc-add at h))
  part_take [] (suc b) (suc b') n h = refl
  part_take (x ∷ y) (suc b) (suc b') n h = part_take y b b' n (omega arith)

  pub part_front : {x y : List A} {b n : ℕ} (b' n' : ℕ) → Frame x y b n → b' + n' ≤ b → part y b' n' ≡ part x b' n'
  part_front {x} {y} {b} {n} b' n' f h = sym (part_take y b b' n' h) ∙ ap (λ (l : List A). part l b' n') f.front ∙ part_take x b b' n' h

  part_drop : (y : List A) (b b' n : ℕ) → b ≤ b' → part (drop b y) (b' - b) n ≡ part y b' n
  unfolding part
  part_drop y b b' n h =
      let e : b + (b' - b) ≡ b' = omega arith in
      ap (take n) (drop-drop (b' - b) b y ∙ ap (λ (k : ℕ). drop k y) e)

  pub part_back : {x y : List A} {b n : ℕ} (b' n' : ℕ) → Frame x y b n → b + n ≤ b' → part y b' n' ≡ part x b' n'
  part_back {x} {y} {b} {n} b' n' f h = sym (part_drop y (b + n) b' n' h) ∙ ap (λ (l : List A). part l (b' - (b + n)) n') f.back ∙ part_drop x (b + n) b' n' h

  pub frame_refl : (x : List A) (b n : ℕ) → Frame x x b n
  frame_refl x b n = record { front = refl; back = refl; long = refl }

  pub frame_set : {x y : List A} {b n : ℕ} (i : ℕ) (v : A) → Frame x y b n → b ≤ i → i < b + n → Frame x (set y i v) b n
  frame_set {x} {y} {b} {n} i v f l h =
      record { front = take-set-le b y i v l ∙ f.front; back = drop-set-lt (b + n) y i v h ∙ f.back; long = length-set y i v ∙ f.long }

  pub frame_trans : {x y z : List A} {b n : ℕ} → Frame x y b n → Frame y z b n → Frame x z b n
  frame_trans f g = record { front = g.front ∙ f.front; back = g.back ∙ f.back; long = g.long ∙ f.long }

  pub part_suc : (xs : List A) (b j : ℕ) (d : A) → b + j < length xs → part xs b (suc j) ≡ part xs b j ++ (get_or xs (b + j) d ∷ [])
  unfolding part
  part_suc xs b j d h = take-suc (drop b xs) j d (simp length-drop (omega arith)) ∙ ap (λ (a : A). take j (drop b xs) ++ (a ∷ [])) (get_or-drop b xs j d)

  pub tab_at : (g : ℕ → A) (n i : ℕ) (d : A) → i < n → get_or (tab g n) i d ≡ g i
  unfolding tab
  tab_at g zero i d h = absurd (not-suc-le-zero h)
  tab_at g (suc n) i d h =
      ⊎_elim
      (λ e. get_or_at (tab g n) (g n) [] d i (tab_length g n ∙ sym e) ∙ ap g (sym e))
      (λ l. get_or-append (tab g n) (g n ∷ []) d i (rw tab_length l) ∙ tab_at g n i d l)
      (eq-or-lt_of_le (le_of_suc-le-suc h))

  -- the laws above with the index `i` as the code writes it, equal to `b + j`
  pub read : (xs : List A) (b n j i : ℕ) (d : A) → i ≡ b + j → j < n → get_or xs i d ≡ get_or (part xs b n) j d
  read xs b n j i d e h = ap (λ (k : ℕ). get_or xs k d) e ∙ part_at xs b n j d h

  pub push : (xs : List A) (b j i : ℕ) (v : A) → i ≡ b + j → i < length xs → part (set xs i v) b (j + 1) ≡ part xs b j ++ (v ∷ [])
  push xs b j i v e h = rw (add-one, e) (part_push xs b j v (rw e at h))

  pub store : (xs : List A) (b n j i : ℕ) (v : A) → i ≡ b + j → j < n → part (set xs i v) b n ≡ set (part xs b n) j v
  store xs b n j i v e h = rw e (part_in xs b n j v h)

  pub tab_more : (g : ℕ → A) (j : ℕ) → tab g (j + 1) ≡ tab g j ++ (g j ∷ [])
  unfolding tab
  tab_more g j = rw add-one refl

  -- tables of the same values
  pub tab_same : (g h : ℕ → A) (n : ℕ) → ((j : ℕ) → j < n → g j ≡ h j) → tab g n ≡ tab h n
  unfolding tab
  tab_same g h zero e = refl
  tab_same g h (suc n) e = ap₂ (λ (l : List A) (x : A). l ++ (x ∷ [])) (tab_same g h n (λ j l. e j (omega arith))) (e n (omega arith))

  pub frame_wide : {x y : List A} {b n : ℕ} (b' n' : ℕ) → Frame x y b n → b' ≤ b → b + n ≤ b' + n' → Frame x y b' n'
  frame_wide {x} {y} {b} {n} b' n' f l h =
      let k = b' + n' - (b + n) in
      let e : b + n + k ≡ b' + n' = omega arith in
      let far : (w : List A) → drop (b' + n') w ≡ drop k (drop (b + n) w) = λ w. ap (λ (m : ℕ). drop m w) (sym e) ∙ sym (drop-drop k (b + n) w) in
      record {
        front = sym (take-take b' b y l) ∙ ap (take b') f.front ∙ take-take b' b x l;
        back = far y ∙ ap (drop k) f.back ∙ sym (far x);
        long = f.long;
      }

  -- one more value of a part that holds a table
  pub grow : (g : ℕ → A) (xs : List A) (b j i : ℕ) (v : A) → part xs b j ≡ tab g j → i ≡ b + j → i < length xs → v ≡ g j
      → part (set xs i v) b (j + 1) ≡ tab g (j + 1)
  grow g xs b j i v p e h q = push xs b j i v e h ∙ (rw (p, q) (sym (tab_more g j)))

  -- a part is its first `m` values and the `n` behind them; a list is what stands before a part, the part, and what stands behind it
  pub part_add : (xs : List A) (b m n : ℕ) → part xs b (m + n) ≡ part xs b m ++ part xs (b + m) n
  unfolding part
  part_add xs b m n = take-add m n (drop b xs) ∙ ap (λ (l : List A). take m (drop b xs) ++ take n l) (drop-drop m b xs)

  part_around : (xs : List A) (b n : ℕ) → xs ≡ take b xs ++ (part xs b n ++ drop (b + n) xs)
  unfolding part
  part_around xs b n =
      sym (take-append-drop b xs)
      ∙ ap (λ (l : List A). take b xs ++ l) (sym (take-append-drop n (drop b xs)))
      ∙ ap (λ (l : List A). take b xs ++ (take n (drop b xs) ++ l)) (drop-drop n b xs)

  -- a frame and what the part holds leave one list
  pub framed_once : {x y z : List A} {b n : ℕ} → Frame x y b n → Frame x z b n → part y b n ≡ part z b n → y ≡ z
  framed_once {x} {y} {z} {b} {n} f g p =
      part_around y b n
      ∙ ap (λ (l : List A). l ++ (part y b n ++ drop (b + n) y)) (f.front ∙ sym g.front)
      ∙ ap (λ (l : List A). take b z ++ (l ++ drop (b + n) y)) p
      ∙ ap (λ (l : List A). take b z ++ (part z b n ++ l)) (f.back ∙ sym g.back)
      ∙ sym (part_around z b n)
