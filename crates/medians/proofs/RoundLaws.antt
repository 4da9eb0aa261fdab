-- What a round leaves: the ranks among the values below a pivot and above it, and that nothing else is looked for. Assumes nothing.
use Prim.Native.Nat.{ℕ, ◌+◌, ◌-◌, ◌≤◌, ◌<◌}
use mathlib.Core.Path.{◌≡◌, refl, sym, ap, ◌∙◌, subst}
use mathlib.Core.Bool.{Bool, true, false, not, ◌&&◌, ◌||◌, false≢true, true≢false}
use mathlib.Core.List.{List}
use native.Mathlib.Nat.{lt_of_lt_of_le, le_trans}
use native.Mathlib.Omega.{arith}
use borrow.Author.Tests.{ltb-true, ltb-false, le-leb}
use lib.Dec.{T, ltb, leb}
use lib.ListN.{length, get_or, take}
use lib.Ieee.{Float, nan, lt, le, eq, is_nan}
use lib.Ieee.Bits.{is_true}
use Rattle.logic.proofs.Laws.{both}
use Rattle.floats.specs.Ahead.{ahead}
use Rattle.floats.proofs.Order.Laws.{number, le_left, le_right, lt→le, not-lt→le, le_transitive, lt_not_le}
use Rattle.medians.specs.declared.Counts.{Counts}
use Rattle.medians.specs.declared.Ranks.{Ranks}
use Rattle.medians.specs.declared.Middles.{Middles}
use Rattle.medians.specs.Inner.Ranks.{count, Each, magnitude, itself, count_below, count_upto, numbers, ranked_of, Middle}
use Rattle.medians.specs.Inner.Rounds.{passing, Kept, Counted, Standing, Remains, across, another}
use Rattle.medians.proofs.OrderLaws.{holds, fails, lt_transitive, ahead_of_number}
use Rattle.medians.proofs.CountLaws.{one, count_length, count_never, count_parts, count_implied}
use Rattle.medians.proofs.PassingLaws.{kept_each, front_length}
use Rattle.medians.proofs.KeptLaws.{ranked_kept}
use Rattle.medians.proofs.RankLaws.{by_counts, near_nan, is_number, itself_number, number_itself}

-- ---- comparisons as equations
pub number_left : (x y : Float) → lt x y ≡ true → T (number x)
number_left x y e = le_left x y (lt→le x y (holds e))

pub number_right : (x y : Float) → lt x y ≡ true → T (number y)
number_right x y e = le_right x y (lt→le x y (holds e))

-- a number is above `x`, where that is one, or at most `x`, and not both
pub never_both : (x y : Float) → le y x ≡ true → lt x y ≡ false
never_both x y e = side (lt x y) refl
  where
    side : (b : Bool) → lt x y ≡ b → lt x y ≡ false
    side true f = absurd (lt_not_le x y (holds f) (holds e))
    side false f = f

pub above_else : (x y : Float) → T (number x) → T (number y) → le y x ≡ false → lt x y ≡ true
above_else x y p q e = side (lt x y) refl
  where
    side : (b : Bool) → lt x y ≡ b → lt x y ≡ true
    side true f = f
    side false f = absurd (false≢true (sym e ∙ is_true (le y x) (not-lt→le x y p q (fails f))))

-- ---- the values below `x`
pub below_ranked : (x : Float) (xs : List Float) (k : ℕ) → k < count_below x xs → Each magnitude xs → ranked_of (passing (λ (y : Float). lt y x) xs) k ≡ ranked_of xs k
below_ranked x xs k h =
    ranked_kept (λ y. false) (λ (y : Float). lt y x) (λ y e. absurd (false≢true e)) (λ y v e. absurd (false≢true e))
    (λ y v t a e. lt_transitive y v x (sym (ahead_of_number y v (number_left v x t)) ∙ a) t)
    xs k k (omega (arith, count_never (λ y. false) xs (λ y. refl))) h

-- ---- the values above `x`, a number
module _ (x : Float) (p : T (number x)) where
  not_before : (y v : Float) → le y x ≡ true → lt x v ≡ true → ahead v y ≡ false
  not_before y v e f = ahead_of_number v y (le_left y x (holds e)) ∙ never_both v y (is_true (le y v) (le_transitive y x v (holds e) (lt→le x v (holds f))))

  above_closed : (y v : Float) → lt x v ≡ true → ahead y v ≡ true → le y x ≡ false → lt x y ≡ true
  above_closed y v t a e = above_else x y p (number_left y v (sym (ahead_of_number y v (number_right x v t)) ∙ a)) e

  pub above_ranked : (xs : List Float) (k place : ℕ) → place + count_upto x xs ≡ k → place < count (λ (y : Float). lt x y) xs → Each magnitude xs → ranked_of (passing (λ (y : Float). lt x y) xs) place ≡ ranked_of xs k
  above_ranked = ranked_kept (λ (y : Float). le y x) (λ (y : Float). lt x y) (λ y e. never_both x y e) not_before above_closed

  -- every number is at most `x`, or above it
  numbers_parts : (xs : List Float) → numbers xs ≡ count_upto x xs + count (λ (y : Float). lt x y) xs
  numbers_parts xs = count_parts itself (λ (y : Float). le y x) (λ (y : Float). lt x y) xs (λ y. side y (eq y y) (le y x) (lt x y) refl refl refl)
    where
      side : (y : Float) (a b c : Bool) → eq y y ≡ a → le y x ≡ b → lt x y ≡ c → one a ≡ one b + one c
      side y a true true e f g = absurd (true≢false (sym g ∙ never_both x y f))
      side y true true false e f g = refl
      side y false true false e f g = absurd (false≢true (sym e ∙ number_itself y (le_left y x (holds f))))
      side y true false true e f g = refl
      side y false false true e f g = absurd (false≢true (sym e ∙ number_itself y (number_right x y g)))
      side y false false false e f g = refl
      side y true false false e f g = absurd (false≢true (sym g ∙ above_else x y p (is_number y (itself_number y e)) f))

-- ---- the pivot itself
module _ (x : Float) (g : magnitude x ≡ true) (s : itself x ≡ true) where
  pub pivot_number : T (number x)
  pivot_number = is_number x (itself_number x s)

  pub pivot_found : (xs : List Float) (k : ℕ) → count_below x xs ≤ k → k < count_upto x xs → Each magnitude xs → x ≡ ranked_of xs k
  pivot_found xs k few many m =
      by_counts xs k x (lt_of_lt_of_le many (count_length (λ (y : Float). le y x) xs))
      (le_trans (count_implied (λ (y : Float). ahead y x) (λ (y : Float). lt y x) xs (λ i l e. sym (ahead_of_number (get_or xs i nan) x pivot_number) ∙ e)) few)
      (lt_of_lt_of_le many (count_implied (λ (y : Float). le y x) (λ (y : Float). not (ahead x y)) xs (λ i l e. ap not (ahead_of_number x (get_or xs i nan) (le_left (get_or xs i nan) x (holds e)) ∙ never_both x (get_or xs i nan) e)))) m g

-- ---- what is left after a round
module _ {run : List Float} {ranks : Ranks} (w : Standing run ranks) where
  module _ {p : Float → Bool} {after : List Float} {r : ℕ} (k : Kept p run after r) where
    short : r ≤ length after
    short = omega (arith, k.long, k.counted, count_length p run)

    kept_signs : Each magnitude (take r after)
    kept_signs = subst (Each magnitude) (sym k.front) (kept_each p magnitude run (λ i l t. w.signs.each i l))

    kept_numbers : ((y : Float) → p y ≡ true → T (number y)) → Each itself (take r after)
    kept_numbers h = subst (Each itself) (sym k.front) (kept_each p itself run (λ i l t. number_itself (get_or run i nan) (h (get_or run i nan) t)))

    -- as many as were counted
    kept_size : length (take r after) ≡ count p run
    kept_size = front_length r after short ∙ k.counted

  pub remains_below : {after : List Float} {c : Counts} {x : Float} {r : ℕ} → Counted x run c → ranks.second < c.below → Kept (λ (y : Float). lt y x) run after r
      → (r ≤ length after) × Remains run ranks.first ranks.second (take r after) ranks × Each itself (take r after)
  remains_below {after} {c} {x} {r} n h k = (
    short k,
    record {
      signs = kept_signs k;
      low = λ l. ap (λ (ys : List Float). ranked_of ys ranks.first) k.front ∙ below_ranked x run ranks.first (omega (arith, ranks.near.0, h, n.below)) w.signs;
      high = λ l. ap (λ (ys : List Float). ranked_of ys ranks.second) k.front ∙ below_ranked x run ranks.second (omega (arith, h, n.below)) w.signs;
      gone = λ l. absurd (beyond (kept_size k) n.below h l);
    },
    kept_numbers k (λ y e. number_left y x e),
  )
    where
      beyond : {a b s : ℕ} → a ≡ count_below x run → b ≡ count_below x run → s < b → a ≤ s → ⊥
      beyond e f g l = omega (arith, e, f, g, l)

  pub remains_above : {after : List Float} {c : Counts} {x : Float} {r : ℕ} {next : Ranks} → Counted x run c → itself x ≡ true → c.upto ≤ ranks.first → Kept (λ (y : Float). lt x y) run after r
      → next.first ≡ ranks.first - c.upto → next.second ≡ ranks.second - c.upto
      → (r ≤ length after) × Remains run ranks.first ranks.second (take r after) next × Each itself (take r after)
  remains_above {after} {c} {x} {r} {next} n t h k e f =
      let q = is_number x (itself_number x t) in (
        short k,
        record {
          signs = kept_signs k;
          low = λ l. ap (λ (ys : List Float). ranked_of ys next.first) k.front ∙ above_ranked x q run ranks.first next.first (omega (arith, h, n.upto, e)) (omega (arith, l, kept_size k, next.near.0)) w.signs;
          high = λ l. ap (λ (ys : List Float). ranked_of ys next.second) k.front ∙ above_ranked x q run ranks.second next.second (omega (arith, h, ranks.near.0, n.upto, f)) (omega (arith, l, kept_size k)) w.signs;
          gone = λ l. sym (near_nan run w.signs ranks.second w.inside (omega (arith, numbers_parts x q run, n.upto, kept_size k, l, f, h, ranks.near.0)));
        },
        kept_numbers k (λ y e. number_right x y e),
      )

pub lies_above : (ranks : Ranks) (c : Counts) → across ranks c ≡ false → c.below ≤ ranks.second → c.upto ≤ ranks.first
lies_above ranks c e h = ltb-false ranks.first c.upto (side (ltb ranks.first c.upto) (leb c.below ranks.second) e (le-leb c.below ranks.second h))
  where
    side : (p q : Bool) → (p && q) ≡ false → q ≡ true → p ≡ false
    side false q e f = refl
    side true q e f = absurd (true≢false (sym f ∙ e))

-- ---- round after round
module _ {xs run : List Float} {first second : ℕ} {next : Ranks} (o : Remains xs first second run next) where
  middle_on : {two : Middles} → next.second < length run → Middle run next.first next.second two → Middle xs first second two
  middle_on l w = record { high = w.high ∙ o.high l; low = λ e. w.low e ∙ o.low l }

  middle_gone : {two : Middles} → length run ≤ next.second → two.high ≡ nan → Middle xs first second two
  unfolding is_nan
  middle_gone {two} l e = record { high = e ∙ sym (o.gone l); low = λ f. absurd (true≢false (sym (ap is_nan e) ∙ f)) }

  -- what is found in what a round leaves is what was looked for
  pub middle_after : {two : Middles} → (next.second < length run → Middle run next.first next.second two) → (length run ≤ next.second → two.high ≡ nan) → Middle xs first second two
  middle_after {two} f g = side (ltb next.second (length run)) refl
    where
      side : (b : Bool) → ltb next.second (length run) ≡ b → Middle xs first second two
      side true e = let l = ltb-true next.second (length run) e in middle_on l (f l)
      side false e = let l = ltb-false next.second (length run) e in middle_gone l (g l)

-- ---- whether there is another round
module _ (size : ℕ) (ranks : Ranks) (rounds : ℕ) where
  abbrev bounded : Bool
  bounded = ltb ranks.second size && ltb rounds 16

  more : another size ranks rounds ≡ true → bounded ≡ true
  more e = (both bounded (ltb rounds 1 || ltb 8 size) e).0

  pub more_inside : another size ranks rounds ≡ true → ranks.second < size
  more_inside e = ltb-true ranks.second size (both (ltb ranks.second size) (ltb rounds 16) (more e)).0
