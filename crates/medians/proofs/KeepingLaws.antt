-- Values kept at the front of their own run, by any test: what stands there so far, and that what is still to come is as it was. Assumes nothing.
use Prim.Native.Nat.{ℕ, ◌+◌, ◌≤◌, ◌<◌}
use mathlib.Core.Path.{◌≡◌, refl, sym, ap, ◌∙◌}
use mathlib.Core.Bool.{Bool, true, false}
use mathlib.Core.List.{List, [], ◌∷◌, ◌++◌}
use native.Mathlib.Nat.{le_refl}
use native.Mathlib.Omega.{arith}
use lib.ListN.{length, get_or, set, take, length-set}
use lib.Seq.{take-set-le, take-length, get_or-set_other}
use lib.Ieee.{Float, nan}
use Rattle.medians.specs.Inner.Ranks.{count}
use Rattle.medians.specs.Inner.Rounds.{passing, Kept}
use Rattle.medians.proofs.CountLaws.{one, counted_more, count_length}
use Rattle.medians.proofs.PassingLaws.{gathered_in, gathered_out, front_length, front_more}

-- of the first `i` values of `before` the `r` that pass `p` stand at the front of `run`, and from the index `i` on nothing has changed
pub record Keeping (p : Float → Bool) (before run : List Float) (r i : ℕ) : Type 0 where
  pub short : i ≤ length before
  pub long : length run ≡ length before
  pub counted : r ≡ count p (take i before)
  pub front : take r run ≡ passing p (take i before)
  pub rest : (j : ℕ) → i ≤ j → get_or run j nan ≡ get_or before j nan

module _ (p : Float → Bool) {before : List Float} where
  pub keeping_none : Keeping p before before 0 0
  unfolding count passing
  keeping_none = record { short = omega arith; long = refl; counted = refl; front = refl; rest = λ j l. refl }

  -- no more are kept than there were
  kept_most : {run : List Float} {r i : ℕ} → Keeping p before run r i → r ≤ i
  kept_most {run} {r} {i} k = omega (arith, k.counted, count_length p (take i before), front_length i before k.short)

  rest_more : {run : List Float} {r i : ℕ} (v : Float) → Keeping p before run r i → (j : ℕ) → i + 1 ≤ j → get_or (set run r v) j nan ≡ get_or before j nan
  rest_more {run} {r} {i} v k j h = get_or-set_other run r j v nan (apart (kept_most k) h) ∙ k.rest j (omega arith)
    where
      apart : {r i j : ℕ} → r ≤ i → i + 1 ≤ j → j ≡ r → ⊥
      apart a b e = omega (arith, a, b, e)

  module _ {run : List Float} {r i m : ℕ} (k : Keeping p before run r i) (h : i < length before) (e : m ≡ one (p (get_or run i nan))) where
    abbrev v : Float
    v = get_or run i nan

    same : v ≡ get_or before i nan
    same = k.rest i (le_refl i)

    stored : (b : Bool) → p v ≡ b → take (r + m) (set run r v) ≡ passing p (take (i + 1) before)
    stored true t =
        ap (λ (n : ℕ). take (r + n) (set run r v)) (e ∙ ap one t)
        ∙ front_more run r v (passing p (take i before)) (omega (arith, kept_most k, h, k.long)) k.front
        ∙ ap (λ (y : Float). passing p (take i before) ++ (y ∷ [])) same
        ∙ sym (gathered_in p before i h (ap p (sym same) ∙ t))
    stored false t =
        let z : r + m ≡ r = omega (arith, e ∙ ap one t) in
        ap (λ (n : ℕ). take n (set run r v)) z ∙ take-set-le r run r v (le_refl r) ∙ k.front ∙ sym (gathered_out p before i h (ap p (sym same) ∙ t))

    -- one value more, which is stored whether it passes or not
    pub keeping_more : Keeping p before (set run r v) (r + m) (i + 1)
    keeping_more =
        record {
          short = omega (arith, h);
          long = length-set run r v ∙ k.long;
          counted = counted_more p before i r k.counted h (e ∙ ap (λ (y : Float). one (p y)) same);
          front = stored (p v) refl;
          rest = rest_more v k;
        }

  pub keeping_all : {run : List Float} {r i : ℕ} → Keeping p before run r i → i ≡ length before → Kept p before run r
  keeping_all {run} {r} {i} k e =
      let whole : take i before ≡ before = ap (λ (n : ℕ). take n before) e ∙ take-length before in
      record { long = k.long; counted = k.counted ∙ ap (count p) whole; front = k.front ∙ ap (passing p) whole }
