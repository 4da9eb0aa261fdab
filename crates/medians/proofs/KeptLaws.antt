-- The value of a rank among the values that are kept, where those given up stand before all of them or behind. Assumes nothing.
use Prim.Native.Nat.{ℕ, ◌+◌, ◌≤◌, ◌<◌, zero-le}
use mathlib.Core.Path.{◌≡◌, refl, sym, ◌∙◌}
use mathlib.Core.Bool.{Bool, true, false, not, ◌&&◌, false≢true, true≢false}
use mathlib.Core.List.{List}
use native.Mathlib.Nat.{lt_of_lt_of_le}
use native.Mathlib.Omega.{arith}
use lib.ListN.{length}
use lib.Ieee.{Float}
use Rattle.floats.specs.Ahead.{ahead}
use Rattle.medians.specs.Inner.Ranks.{count, Each, magnitude, ranked_of}
use Rattle.medians.specs.Inner.Rounds.{passing}
use Rattle.medians.proofs.CountLaws.{one, count_length, count_either, count_apart, counts_each}
use Rattle.medians.proofs.PassingLaws.{kept_count, kept_length, kept_each}
use Rattle.medians.proofs.SortLaws.{sorted_count, sorted_length}
use Rattle.medians.proofs.RankLaws.{by_counts, ranked_few, ranked_many}

-- of the values of `xs` those that pass `kept` are kept. Those that pass `before` are given up, and none kept is ahead of one of them; whatever is ahead of one kept is kept itself or passes `before`. Then the value of the rank `place` among those kept has in `xs` the rank `k`, which is `place` and the count of `before`
module _ (before kept : Float → Bool)
    (other : (y : Float) → before y ≡ true → kept y ≡ false)
    (ordered : (y v : Float) → before y ≡ true → kept v ≡ true → ahead v y ≡ false)
    (closed : (y v : Float) → kept v ≡ true → ahead y v ≡ true → before y ≡ false → kept y ≡ true)
    (xs : List Float) (k place : ℕ) (e : place + count before xs ≡ k) (many : place < count kept xs) where
  inside_kept : place < length (passing kept xs)
  inside_kept = omega (arith, kept_length kept xs, many)

  abbrev v : Float
  v = ranked_of (passing kept xs) place

  -- what every value kept passes, `v` passes
  of_kept : (q : Float → Bool) → Each q (passing kept xs) → q v ≡ true
  of_kept q h = (counts_each (λ p. sorted_count p (passing kept xs)) h).each place (omega (arith, inside_kept, sorted_length (passing kept xs)))

  v_kept : kept v ≡ true
  v_kept = of_kept kept (kept_each kept kept xs (λ i l t. t))

  few_ahead : count (λ (y : Float). ahead y v) xs ≤ k
  few_ahead =
      let c = count_either (λ (y : Float). ahead y v) before (λ (y : Float). kept y && ahead y v) xs (λ y. side y (before y) (ahead y v) refl refl) in
      omega (arith, c, e, kept_count kept (λ (y : Float). ahead y v) xs, ranked_few (passing kept xs) place inside_kept)
    where
      side : (y : Float) (a b : Bool) → before y ≡ a → ahead y v ≡ b → one b ≤ one a + one (kept y && b)
      side y a false t f = zero-le
      side y true true t f = omega arith
      side y false true t f = rw (closed y v v_kept f t) (omega arith)

  many_not_behind : k < count (λ (y : Float). not (ahead v y)) xs
  many_not_behind =
      let c = count_apart (λ (y : Float). not (ahead v y)) before (λ (y : Float). kept y && not (ahead v y)) xs (λ y. side y (before y) (kept y) (ahead v y) refl refl refl) in
      omega (arith, c, e, kept_count kept (λ (y : Float). not (ahead v y)) xs, ranked_many (passing kept xs) place inside_kept)
    where
      side : (y : Float) (a b d : Bool) → before y ≡ a → kept y ≡ b → ahead v y ≡ d → one a + one (b && not d) ≤ one (not d)
      side y true true d t f g = absurd (false≢true (sym (other y t) ∙ f))
      side y true false true t f g = absurd (true≢false (sym g ∙ ordered y v t v_kept))
      side y true false false t f g = omega arith
      side y false true true t f g = omega arith
      side y false true false t f g = omega arith
      side y false false true t f g = omega arith
      side y false false false t f g = omega arith

  -- there are more values than the rank says
  pub inside_all : k < length xs
  inside_all = lt_of_lt_of_le many_not_behind (count_length (λ (y : Float). not (ahead v y)) xs)

  pub ranked_kept : Each magnitude xs → ranked_of (passing kept xs) place ≡ ranked_of xs k
  ranked_kept m = by_counts xs k v inside_all few_ahead many_not_behind m (of_kept magnitude (kept_each kept magnitude xs (λ i l t. m.each i l)))
