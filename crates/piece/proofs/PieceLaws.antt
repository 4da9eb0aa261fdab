-- A segment from the sums before and after it, the spread of few readings and of more, a summary from its segment, what it says in the rules' numbers, and what an answer says of the piece. Assumes nothing.
use Rattle.std.specs.Prelude.{Option, Some, None, Ok, Err}
use Rattle.std.proofs.Common.{◌≡◌, ℕ, ◌+◌, ◌-◌, ◌<◌, ◌≤◌, zero, suc, get_or, take, drop, get_or-drop, length-drop, add-zero, sym, refl, ap, ◌∙◌, arith, Bool, true, false, cond, not, ◌&&◌, T, ltb, leb, List, length, ltb→lt, leb→le, nltb→le, le-ltb, lt-ltb}
use native.Mathlib.Numerals.{add-one}
use Rattle.std.specs.List.{fold}
use Rattle.std.proofs.lemmas.List.Sums.{fold_more}
use lib.Ieee.{Float, nan}
use Rattle.floats.specs.Numbers.{◌+ᶠ◌, ◌-ᶠ◌, ◌/ᶠ◌, +0, of_whole}
use Rattle.logic.proofs.Laws.{clash}
use Rattle.refusals.specs.Limits.{max_readings}
use Rattle.refusals.specs.Tried.{tried}
use Rattle.refusals.specs.Said.{refusing}
use Rattle.refusals.specs.declared.Refusal.TheVariants as Refusal
use Rattle.refusals.proofs.TriedLaws.{tried_map}
use Rattle.sums.specs.Sums.{mean_of, centred, centred_to, squares_to}
use Rattle.costs.specs.Costs.{segment_about, segment_of, l2_cost}
use Rattle.costs.specs.declared.Segment.{Segment}
use Rattle.piece.specs.declared.segment_of.Running.{Running}
use Rattle.piece.specs.declared.PieceSummary.{PieceSummary}
use Rattle.piece.specs.Inner.Running.{running_at, with_reading}
use Rattle.piece.specs.Spread.{not_below_zero, spread_of}
use Rattle.piece.specs.Piece.{summary_of, piece_tests, summarised_as, summarised}

pub spread_of_few : (n : ℕ) (cost : Float) → n < 2 → spread_of n cost ≡ None
unfolding spread_of
spread_of_few n cost h = rw (lt-ltb n 2 h)

pub spread_of_more : (n : ℕ) (cost : Float) → 2 ≤ n → spread_of n cost ≡ Some (not_below_zero cost /ᶠ of_whole (n - 1))
unfolding spread_of
spread_of_more n cost h = rw (le-ltb n 2 h)

pub summary_from : (xs : List Float) (a b : ℕ) (m q : Float) (s : Segment) (r : Option Float) → m ≡ mean_of xs → s ≡ segment_about xs m a b → q ≡ l2_cost s → r ≡ spread_of (b - a) q
    → record { length = b - a; mean = s.sum /ᶠ s.length +ᶠ m; spread = r } ≡ summary_of xs a b
unfolding summary_of segment_of
summary_from xs a b m q s r e f g h = rw (h, g, f, e)

-- in the rules' numbers: 6, then 12, then the values
pub summarised_said : (xs : List Float) (a b : ℕ) → summarised (summarised_as xs a b) ≡ tried refusing (piece_tests xs a b) (summarised (Ok (summary_of xs a b)))
unfolding summarised_as
summarised_said xs a b = tried_map summarised Err (piece_tests xs a b) (Ok (summary_of xs a b))

-- ---- a summary that was answered: no test held, so it is that of a piece of the channel
pub record Found (xs : List Float) (a b : ℕ) (s : PieceSummary) : Type 0 where
  pub start_first : a < b
  pub within : b ≤ length xs
  pub short : length xs ≤ max_readings
  pub summed : s ≡ summary_of xs a b

pub found : (xs : List Float) (a b : ℕ) (s : PieceSummary) → Ok s ≡ summarised_as xs a b → Found xs a b s
unfolding summarised_as piece_tests tried
found xs a b s answer = go (ltb max_readings (length xs)) (ltb a b) (leb b (length xs)) (nltb→le max_readings (length xs)) (ltb→lt a b) (leb→le b (length xs)) answer
  where
    go : (p q r : Bool) → (T (not p) → length xs ≤ max_readings) → (T q → a < b) → (T r → b ≤ length xs)
        → Ok s ≡ cond p (Err Refusal.TooLong) (cond (not (q && r)) (Err Refusal.Piece) (Ok (summary_of xs a b))) → Found xs a b s
    go true q r f g h e = absurd (clash cc)
    go false false r f g h e = absurd (clash cc)
    go false true false f g h e = absurd (clash cc)
    go false true true f g h e = record { start_first = g tt; within = h tt; short = f tt; summed = cc e }

-- ---- one reading more
running_more : (xs : List Float) (mean : Float) (a i : ℕ) → with_reading mean (running_at xs mean (a + i)) (get_or xs (a + i) nan) ≡ running_at xs mean (a + suc i)
unfolding with_reading running_at centred_to squares_to centred
running_more xs mean a i = let e : a + suc i ≡ suc (a + i) = omega arith in rw e refl

-- ---- the sums of a channel's first readings, on by `i` readings from the reading `a`
pub running_on : (xs : List Float) (mean : Float) (a i : ℕ) → a + i ≤ length xs → fold (with_reading mean) (running_at xs mean a) (take i (drop a xs)) ≡ running_at xs mean (a + i)
running_on xs mean a zero h = rw add-zero refl
running_on xs mean a (suc i) h = ap (λ (k : ℕ). fold (with_reading mean) (running_at xs mean a) (take k (drop a xs))) (sym (add-one i))
    ∙ fold_more (with_reading mean) (running_at xs mean a) (drop a xs) i nan (rw length-drop (omega (arith, h)))
    ∙ rw (get_or-drop, running_on xs mean a i (omega (arith, h))) (running_more xs mean a i)

running_part : (xs : List Float) (mean : Float) (a b : ℕ) → a ≤ b → b ≤ length xs → fold (with_reading mean) (running_at xs mean a) (take (b - a) (drop a xs)) ≡ running_at xs mean b
running_part xs mean a b h l = running_on xs mean a (b - a) (omega arith) ∙ ap (running_at xs mean) (omega arith)

running_first : (xs : List Float) (mean : Float) (a : ℕ) → a ≤ length xs → fold (with_reading mean) (record { sum = +0; sum_of_squares = +0 }) (take a xs) ≡ running_at xs mean a
unfolding running_at centred_to squares_to
running_first xs mean a h = running_on xs mean 0 a (omega arith) ∙ ap (running_at xs mean) (omega arith)

-- the segment from `a` up to `b` by the sums before it and those at its end
pub segment_between : (xs : List Float) (mean : Float) (a b : ℕ) (x y : Running) (l : Float) → a ≤ b → b ≤ length xs → x ≡ fold (with_reading mean) (record { sum = +0; sum_of_squares = +0 }) (take a xs) → y ≡ fold (with_reading mean) x (take (b - a) (drop a xs)) → l ≡ of_whole (b - a)
    → record { length = l; sum = y.sum -ᶠ x.sum; sum_of_squares = y.sum_of_squares -ᶠ x.sum_of_squares } ≡ segment_about xs mean a b
unfolding segment_about running_at
segment_between xs mean a b x y l h k e f g =
    let before : x ≡ running_at xs mean a = e ∙ running_first xs mean a (omega arith) in
    rw (f, before, running_part xs mean a b h k, g) refl

-- the sums with the reading `i` taken in
pub taken_more : (xs : List Float) (mean : Float) (before : Running) (i : ℕ) (s q : Float) → i < length xs → record { sum = s; sum_of_squares = q } ≡ fold (with_reading mean) before (take i xs)
    → with_reading mean (record { sum = s; sum_of_squares = q }) (get_or xs i nan) ≡ fold (with_reading mean) before (take (i + 1) xs)
taken_more xs mean before i s q h e = ap (λ (r : Running). with_reading mean r (get_or xs i nan)) e ∙ sym (fold_more (with_reading mean) before xs i nan h)
