-- The value of a rank, by counts and by patterns. Assumes nothing.
use Prim.Native.Nat.{ℕ, suc, ◌+◌, ◌≤◌, ◌<◌}
use mathlib.Core.Path.{◌≡◌, refl, sym, ap, ◌∙◌}
use mathlib.Core.Bool.{Bool, true, false, not, false≢true, true≢false}
use mathlib.Core.List.{List}
use native.Mathlib.Omega.{arith}
use borrow.Author.Tests.{ltb-true, ltb-false, le-ltb}
use lib.Dec.{T, ltb}
use lib.ListN.{length, get_or}
use lib.Ieee.{Float, nan, inf, fin, binary64, lt, eq, ne, fits, of_bits, to_bits, is_nan}
use lib.Ieee.Bits.{is_true}
use Rattle.logic.proofs.Laws.{both}
use Rattle.floats.specs.Ahead.{ahead}
use lib.Ieee.Compare.{differs_from_itself}
use lib.Ieee.Fits.{inf-fits}
use native.Mathlib.Nat.{le_refl, le_trans, lt_of_lt_of_le}
use Rattle.floats.proofs.Order.Laws.{number}
use Rattle.floats.proofs.Order.Patterns.{unsigned, pattern_order, pattern_most, pattern_of}
use Rattle.medians.specs.Order.{sorted}
use Rattle.medians.specs.Inner.Ranks.{count, Each, magnitude, numbers, ranked_of, highest, Near}
use Rattle.medians.specs.Inner.Rounds.{InOrder}
use Rattle.medians.proofs.OrderLaws.{holds, ahead_of_number, ahead_of_later}
use Rattle.medians.proofs.CountLaws.{count_length, count_most, count_least, count_implied, counts_each}
use Rattle.medians.proofs.MagnitudeLaws.{level_equal}
use Rattle.medians.proofs.SortLaws.{sorted_rising, sorted_count, sorted_length, rising_at, still_ahead}

clash : (x y k : ℕ) → x ≡ y → x ≤ k → k < y → ⊥
clash x y k f m n = omega (arith, f, m, n)

-- ---- by counts: `v` is the value of the rank `k` where at most `k` values are ahead of it, and more are not behind it
module _ (xs : List Float) (k : ℕ) (v : Float) (inside : k < length xs) (few : count (λ (y : Float). ahead y v) xs ≤ k) (many : k < count (λ (y : Float). not (ahead v y)) xs) where
  w : Float
  w = ranked_of xs k

  in_sorted : k < length (sorted xs)
  in_sorted = omega (arith, inside, sorted_length xs)

  not_ahead : ahead v w ≡ false
  unfolding w
  not_ahead = side (ahead v (ranked_of xs k)) refl
    where
      late : ahead v (ranked_of xs k) ≡ true → count (λ (y : Float). not (ahead v y)) (sorted xs) ≤ k
      late t = count_most (λ (y : Float). not (ahead v y)) (sorted xs) k (λ i l h. ap not (ahead_of_later v (ranked_of xs k) (get_or (sorted xs) i nan) t (rising_at (sorted xs) (sorted_rising xs) k i l h)))

      side : (b : Bool) → ahead v (ranked_of xs k) ≡ b → ahead v (ranked_of xs k) ≡ false
      side false t = t
      side true t = absurd (clash (count (λ (y : Float). not (ahead v y)) (sorted xs)) (count (λ (y : Float). not (ahead v y)) xs) k (sym (sorted_count (λ (y : Float). not (ahead v y)) xs)) (late t) many)

  not_behind : ahead w v ≡ false
  unfolding w
  not_behind = side (ahead (ranked_of xs k) v) refl
    where
      early : ahead (ranked_of xs k) v ≡ true → suc k ≤ count (λ (y : Float). ahead y v) (sorted xs)
      early t = count_least (λ (y : Float). ahead y v) (sorted xs) (suc k) (omega (arith, in_sorted)) (λ i l. still_ahead (get_or (sorted xs) i nan) (ranked_of xs k) v (rising_at (sorted xs) (sorted_rising xs) i k (omega (arith, l)) in_sorted) t)

      side : (b : Bool) → ahead (ranked_of xs k) v ≡ b → ahead (ranked_of xs k) v ≡ false
      side false t = t
      side true t = absurd (clash (count (λ (y : Float). ahead y v) xs) (count (λ (y : Float). ahead y v) (sorted xs)) k (sorted_count (λ (y : Float). ahead y v) xs) few (early t))

  pub by_counts : Each magnitude xs → magnitude v ≡ true → v ≡ ranked_of xs k
  unfolding w
  by_counts m g = level_equal v (ranked_of xs k) g ((counts_each (λ q. sorted_count q xs) m).each k in_sorted) not_ahead not_behind

-- of values in order, the one at the index `k` has at most `k` values ahead of it and more that are not behind it, so it is the value of the rank `k`
module _ (xs ys : List Float) (o : InOrder xs ys) (k : ℕ) (inside : k < length ys) where
  pub place_few : count (λ (y : Float). ahead y (get_or ys k nan)) xs ≤ k
  place_few = omega (arith, o.same (λ (y : Float). ahead y (get_or ys k nan)), count_most (λ (y : Float). ahead y (get_or ys k nan)) ys k (λ i l h. rising_at ys o.rising k i l h))

  pub place_many : k < count (λ (y : Float). not (ahead (get_or ys k nan) y)) xs
  place_many = omega (arith, o.same (λ (y : Float). not (ahead (get_or ys k nan) y)), count_least (λ (y : Float). not (ahead (get_or ys k nan) y)) ys (suc k) (omega (arith, inside)) (λ i l. ap not (rising_at ys o.rising i k (omega (arith, l)) inside)))

  pub place_ranked : Each magnitude xs → get_or ys k nan ≡ ranked_of xs k
  place_ranked m = by_counts xs k (get_or ys k nan) (lt_of_lt_of_le place_many (count_length (λ (y : Float). not (ahead (get_or ys k nan) y)) xs)) place_few place_many m ((counts_each (λ p. sym (o.same p)) m).each k inside)

module _ (xs : List Float) (k : ℕ) (inside : k < length xs) where
  in_order : InOrder xs (sorted xs)
  in_order = record { rising = sorted_rising xs; same = λ p. sym (sorted_count p xs) }

  in_place : k < length (sorted xs)
  in_place = omega (arith, inside, sorted_length xs)

  pub ranked_few : count (λ (y : Float). ahead y (ranked_of xs k)) xs ≤ k
  ranked_few = place_few xs (sorted xs) in_order k in_place

  pub ranked_many : k < count (λ (y : Float). not (ahead (ranked_of xs k) y)) xs
  ranked_many = place_many xs (sorted xs) in_order k in_place

-- ---- by patterns
record Held (y : Float) : Type 0 where
  clear : unsigned y ≡ true
  held : T (fits binary64 y)

held_number : (y : Float) → magnitude y ≡ true → is_nan y ≡ false → Held y
unfolding magnitude unsigned is_nan
held_number nan m n = absurd (true≢false n)
held_number (inf s) m n = record { clear = m; held = inf-fits binary64 s }
held_number (fin s k e) m n = let b = both (not s) (fits binary64 (fin s k e)) m in record { clear = b.0; held = holds b.1 }

pub is_number : (x : Float) → is_nan x ≡ false → T (number x)
unfolding is_nan
is_number nan e = absurd (true≢false e)
is_number (inf s) e = tt
is_number (fin s m k) e = tt

pub is_nan_lem : (x : Float) → is_nan x ≡ true → x ≡ nan
unfolding is_nan
is_nan_lem nan e = refl
is_nan_lem (inf s) e = absurd (false≢true e)
is_nan_lem (fin s m k) e = absurd (false≢true e)

-- a number is below the value of the pattern `p` where its own pattern is lower
pub below_pattern : (y : Float) (p : ℕ) → magnitude y ≡ true → is_nan y ≡ false → p ≤ highest → lt y (of_bits binary64 p) ≡ ltb (to_bits binary64 y) p
below_pattern y p m n h =
    let a = held_number y m n in
    let b = pattern_of p h in
    pattern_order y (of_bits binary64 p) a.clear b.clear a.held b.held ∙ ap (ltb (to_bits binary64 y)) b.back

above_pattern : (y : Float) (p : ℕ) → magnitude y ≡ true → is_nan y ≡ false → p ≤ highest → lt (of_bits binary64 p) y ≡ ltb p (to_bits binary64 y)
above_pattern y p m n h =
    let a = held_number y m n in
    let b = pattern_of p h in
    pattern_order (of_bits binary64 p) y b.clear a.clear b.held a.held ∙ ap (λ (x : ℕ). ltb x (to_bits binary64 y)) b.back

nan_below_none : (y x : Float) → is_nan y ≡ true → lt y x ≡ false
unfolding is_nan lt
nan_below_none nan x e = refl
nan_below_none (inf s) x e = absurd (false≢true e)
nan_below_none (fin s m k) x e = absurd (false≢true e)

-- a value that is below another is a number
pub below_number : (y x : Float) → lt y x ≡ true → is_nan y ≡ false
below_number y x e = side (is_nan y) refl
  where
    side : (b : Bool) → is_nan y ≡ b → is_nan y ≡ false
    side false n = n
    side true n = absurd (false≢true (sym (nan_below_none y x n) ∙ e))

-- ---- zero
pub none_below_zero : (y : Float) → magnitude y ≡ true → lt y (of_bits binary64 0) ≡ false
none_below_zero y m = side (is_nan y) refl
  where
    side : (b : Bool) → is_nan y ≡ b → lt y (of_bits binary64 0) ≡ false
    side true n = nan_below_none y (of_bits binary64 0) n
    side false n = below_pattern y 0 m n (omega arith) ∙ le-ltb (to_bits binary64 y) 0 (omega arith)

pub pattern_magnitude : (p : ℕ) → p ≤ highest → magnitude (of_bits binary64 p) ≡ true
unfolding magnitude unsigned
pattern_magnitude p h = let b = pattern_of p h in value (of_bits binary64 p) b.clear b.held
  where
    value : (x : Float) → unsigned x ≡ true → T (fits binary64 x) → magnitude x ≡ true
    value nan c f = refl
    value (inf s) c f = c
    value (fin s k e) c f = rw (c, is_true (fits binary64 (fin s k e)) f) refl

nan_magnitude : magnitude nan ≡ true
unfolding magnitude
nan_magnitude = refl

-- a number equals itself, and nothing else does
pub equals_itself : (y : Float) → is_nan y ≡ false → eq y y ≡ true
unfolding ne is_nan
equals_itself y n = side (eq y y) (differs_from_itself y)
  where
    side : (b : Bool) → (T (not b) → y ≡ nan) → b ≡ true
    side true f = refl
    side false f = absurd (true≢false (sym (ap is_nan (f tt)) ∙ n))

pub itself_number : (y : Float) → eq y y ≡ true → is_nan y ≡ false
unfolding eq is_nan
itself_number nan e = absurd (false≢true e)
itself_number (inf s) e = refl
itself_number (fin s m d) e = refl

pub number_itself : (y : Float) → T (number y) → eq y y ≡ true
number_itself nan h = absurd h
number_itself (inf s) h = equals_itself (inf s) (unfold is_nan in refl)
number_itself (fin s m d) h = equals_itself (fin s m d) (unfold is_nan in refl)

within : (a b : ℕ) → a < b + 1 → a ≤ b
within a b h = omega (arith, h)

-- ---- the value of the rank `k`
module _ (xs : List Float) (m : Each magnitude xs) (k : ℕ) (inside : k < length xs) where
  pub near_nan : numbers xs ≤ k → nan ≡ ranked_of xs k
  unfolding ahead is_nan lt
  near_nan h = by_counts xs k nan inside (le_trans (count_implied (λ (y : Float). ahead y nan) (λ (y : Float). eq y y) xs (λ i l e. first (get_or xs i nan) e)) h) (lt_of_lt_of_le inside (count_least (λ (y : Float). not (ahead nan y)) xs (length xs) (le_refl (length xs)) (λ i l. last (get_or xs i nan)))) m nan_magnitude
    where
      first : (y : Float) → ahead y nan ≡ true → eq y y ≡ true
      first nan e = absurd (false≢true e)
      first (inf s) e = equals_itself (inf s) refl
      first (fin s n d) e = equals_itself (fin s n d) refl

      last : (y : Float) → not (ahead nan y) ≡ true
      last nan = refl
      last (inf s) = refl
      last (fin s n d) = refl

  pub near_found : {p : ℕ} → k < numbers xs → Near xs k p → of_bits binary64 p ≡ ranked_of xs k
  unfolding to_bits
  near_found {p} some n = by_counts xs k (of_bits binary64 p) inside few many m (pattern_magnitude p n.known)
    where
      few : count (λ (y : Float). ahead y (of_bits binary64 p)) xs ≤ k
      few = le_trans (count_implied (λ (y : Float). ahead y (of_bits binary64 p)) (λ (y : Float). lt y (of_bits binary64 p)) xs (λ i l e. sym (ahead_of_number (get_or xs i nan) (of_bits binary64 p) (is_number (of_bits binary64 p) (pattern_of p n.known).number)) ∙ e)) n.few

      not_after : (y : Float) → magnitude y ≡ true → is_nan y ≡ false → to_bits binary64 y ≤ p → not (ahead (of_bits binary64 p) y) ≡ true
      not_after y g a l = ap not (ahead_of_number (of_bits binary64 p) y (is_number y a) ∙ above_pattern y p g a n.known ∙ le-ltb p (to_bits binary64 y) l)

      next_some : p + 1 ≤ highest → k < count (λ (y : Float). not (ahead (of_bits binary64 p) y)) xs
      next_some h = lt_of_lt_of_le (n.many h) (count_implied (λ (y : Float). lt y (of_bits binary64 (p + 1))) (λ (y : Float). not (ahead (of_bits binary64 p) y)) xs (λ i l e.
          let y = get_or xs i nan in
          let a = below_number y (of_bits binary64 (p + 1)) e in
          not_after y (m.each i l) a (within (to_bits binary64 y) p (ltb-true (to_bits binary64 y) (p + 1) (sym (below_pattern y (p + 1) (m.each i l) a h) ∙ e)))))

      last_some : p ≡ highest → k < count (λ (y : Float). not (ahead (of_bits binary64 p) y)) xs
      last_some h = lt_of_lt_of_le some (count_implied (λ (y : Float). eq y y) (λ (y : Float). not (ahead (of_bits binary64 p) y)) xs (λ i l e.
          let y = get_or xs i nan in
          let a = itself_number y e in
          let b = held_number y (m.each i l) a in
          not_after y (m.each i l) a (rw h (pattern_most y b.clear b.held))))

      many : k < count (λ (y : Float). not (ahead (of_bits binary64 p) y)) xs
      many = side (ltb p highest) (ltb-true p highest) (ltb-false p highest)
        where
          side : (b : Bool) → (b ≡ true → p < highest) → (b ≡ false → highest ≤ p) → k < count (λ (y : Float). not (ahead (of_bits binary64 p) y)) xs
          side true f g = next_some (let z = f refl in omega (arith, z))
          side false f g = last_some (let z = g refl in omega (arith, z, n.known))
