-- Laws of `Cleared`: nothing cleared, one index more, a part that reaches the area's end, and the whole area. Assumes nothing.
use Prim.Native.Nat.{ℕ, zero, suc, ◌+◌, ◌-◌, ◌≤◌, ◌<◌}
use mathlib.Core.Path.{◌≡◌, refl, sym, ap, ap₂, ◌∙◌}
use mathlib.Core.Bool.{Bool, true, false, cond}
use mathlib.Core.List.{List, [], ◌∷◌, ◌++◌}
use native.Mathlib.Omega.{arith}
use native.Mathlib.Nat.{le_of_suc-le-suc, not-suc-le-zero}
use native.Mathlib.Numerals.{add-one}
use borrow.Author.Tests.{ltb-true, ltb-false}
use lib.Dec.{ltb}
use lib.ListN.{length, take, drop, set, replicate, get_or, length-replicate, length-drop, take-append-drop}
use lib.Seq.{take_all}
use Rattle.areas.specs.Parts.{part}
use Rattle.areas.proofs.PartLaws.{push, part_suc, frame_refl, frame_set, frame_wide}
use Rattle.areas.specs.Cleared.{Cleared, stop_of}

module _ {A : Type 0} where
  replicate_at : (m i : ℕ) (v d : A) → i < m → get_or (replicate m v) i d ≡ v
  replicate_at zero i v d h = absurd (not-suc-le-zero h)
  replicate_at (suc m) zero v d h = refl
  replicate_at (suc m) (suc i) v d h = replicate_at m i v d (le_of_suc-le-suc h)

  cleared_none : (v : A) (area : List A) (place : ℕ) → Cleared v area area place 0
  unfolding part
  cleared_none v area place = record { zero = refl; frame = frame_refl area place 0 }

  -- before the loop's first turn, with `place` for its index
  pub cleared_at : (v : A) (area : List A) (place : ℕ) → Cleared v area area place (place - place)
  cleared_at v area place = let e : place - place ≡ 0 = omega arith in rw e (cleared_none v area place)

  -- one turn of the loop: the index `i`, behind those that are cleared, is set to `v`
  pub cleared_more : (v : A) (x y : List A) (place i : ℕ) → Cleared v x y place (i - place) → place ≤ i → i < length y → Cleared v x (set y i v) place (i + 1 - place)
  cleared_more v x y place i r h l =
      let s = i - place in
      let e : i + 1 - place ≡ s + 1 = omega arith in
      let f : i ≡ place + s = omega arith in
      let long : length y ≡ length x = r.frame.long in
      let zeros = replicate (length x) v in
      let room : place + s < length zeros = rw length-replicate (omega arith) in
      rw e (record {
        zero =
            push y place s i v f l
            ∙ ap (λ (p : List A). p ++ (v ∷ [])) r.zero
            ∙ ap (λ (a : A). part zeros place s ++ (a ∷ [])) (sym (replicate_at (length x) (place + s) v v (omega arith)))
            ∙ sym (part_suc zeros place s v room)
            ∙ ap (part zeros place) (sym (add-one s));
        frame = frame_set i v (frame_wide place (s + 1) r.frame (omega arith) (omega arith)) h (omega arith);
      })

  part_past : (xs : List A) (b m n : ℕ) → length xs ≤ b + m → m ≤ n → part xs b n ≡ part xs b m
  unfolding part
  part_past xs b m n h l = take_all n (drop b xs) (simp length-drop (omega arith)) ∙ sym (take_all m (drop b xs) (simp length-drop (omega arith)))

  -- where the first `m` from `place` reach the area's end, so do the first `n`, clipped to the area
  pub cleared_past : (v : A) (x y : List A) (place m n : ℕ) → Cleared v x y place m → length x ≤ place + m → m ≤ n → Cleared v x y place n
  cleared_past v x y place m n r h l =
      record {
        zero =
            part_past y place m n (rw r.frame.long h) l
            ∙ r.zero
            ∙ sym (part_past (replicate (length x) v) place m n (rw length-replicate h) l);
        frame = frame_wide place n r.frame (omega arith) (omega arith);
      }

  -- the loop's end: with `i` at `stop_of` the whole part is cleared
  pub cleared_all : (v : A) (x y : List A) (place size i : ℕ) → Cleared v x y place (i - place) → i ≡ stop_of place size (length x) → Cleared v x y place size
  unfolding stop_of
  cleared_all v x y place size i r e = go (ltb place (length x)) (ltb size (length x - place)) refl refl e
    where
      go : (a b : Bool) → ltb place (length x) ≡ a → ltb size (length x - place) ≡ b → i ≡ cond a (cond b (place + size) (length x)) place → Cleared v x y place size
      go true true p q f = let g : i - place ≡ size = omega arith in rw g at r
      go true false p q f = let h = ltb-true place (length x) p in let l = ltb-false size (length x - place) q in cleared_past v x y place (i - place) size r (omega arith) (omega arith)
      go false b p q f = let h = ltb-false place (length x) p in cleared_past v x y place (i - place) size r (omega arith) (omega arith)

  -- an area that is cleared as a whole holds `v` alone
  pub cleared_whole : {v : A} {x y : List A} → Cleared v x y 0 (length x) → y ≡ replicate (length x) v
  unfolding part
  cleared_whole {v} {x} {y} r =
      let l : length y ≡ length x = r.frame.long in
      sym (take_all (length x) y (omega arith)) ∙ r.zero ∙ take_all (length x) (replicate (length x) v) (rw length-replicate (omega arith))

  drop_replicate : (b m : ℕ) (v : A) → b ≤ m → drop b (replicate m v) ≡ replicate (m - b) v
  drop_replicate zero m v h = let e : m ≡ m - 0 = omega arith in ap (λ (k : ℕ). replicate k v) e
  drop_replicate (suc b) zero v h = absurd (not-suc-le-zero h)
  drop_replicate (suc b) (suc m) v h = let e : m - b ≡ suc m - suc b = omega arith in drop_replicate b m v (le_of_suc-le-suc h) ∙ ap (λ (k : ℕ). replicate k v) e

  take_replicate : (n m : ℕ) (v : A) → n ≤ m → take n (replicate m v) ≡ replicate n v
  take_replicate zero m v h = refl
  take_replicate (suc n) zero v h = absurd (not-suc-le-zero h)
  take_replicate (suc n) (suc m) v h = ap (λ (t : List A). v ∷ t) (take_replicate n m v (le_of_suc-le-suc h))

  -- a cleared part that lies within the area is `size` times `v`
  pub cleared_part : {v : A} {x y : List A} {place size : ℕ} → Cleared v x y place size → place + size ≤ length x → part y place size ≡ replicate size v
  unfolding part
  cleared_part {v} {x} {y} {place} {size} r h =
      r.zero ∙ ap (take size) (drop_replicate place (length x) v (omega arith)) ∙ take_replicate size (length x - place) v (omega arith)

  -- a cleared part that reaches the area's end: `y` is `x` up to `place`, and `v` behind it
  pub cleared_tail : {v : A} {x y : List A} {place size : ℕ} → Cleared v x y place size → place ≤ length x → length x ≤ place + size → y ≡ take place x ++ replicate (length x - place) v
  unfolding part
  cleared_tail {v} {x} {y} {place} {size} r h l =
      let long : length y ≡ length x = r.frame.long in
      let tail : drop place y ≡ replicate (length x - place) v =
      sym (take_all size (drop place y) (simp length-drop (omega arith)))
      ∙ r.zero
      ∙ take_all size (drop place (replicate (length x) v)) (simp (length-drop, length-replicate) (omega arith))
      ∙ drop_replicate place (length x) v h in
      sym (take-append-drop place y) ∙ ap₂ ◌++◌ r.frame.front tail

-- `stop_of` is at least `place`, and an index from `place` up to it is within the area
pub stop_from : (place size long : ℕ) → place ≤ stop_of place size long
unfolding stop_of
stop_from place size long = go (ltb place long) (ltb size (long - place)) refl refl
  where
    go : (a b : Bool) → ltb place long ≡ a → ltb size (long - place) ≡ b → place ≤ cond a (cond b (place + size) long) place
    go true true p q = omega arith
    go true false p q = let h = ltb-true place long p in omega arith
    go false b p q = omega arith

pub stop_in : (place size long i : ℕ) → place ≤ i → i < stop_of place size long → i < long
unfolding stop_of
stop_in place size long i l = go (ltb place long) (ltb size (long - place)) refl refl
  where
    go : (a b : Bool) → ltb place long ≡ a → ltb size (long - place) ≡ b → i < cond a (cond b (place + size) long) place → i < long
    go true true p q h = let f = ltb-true size (long - place) q in omega arith
    go true false p q h = h
    go false b p q h = omega arith
