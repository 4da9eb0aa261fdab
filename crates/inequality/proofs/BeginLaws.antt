-- How the areas begin: the running sums stand by index in every part, and the candidate 0 with F(0) at the front. Assumes nothing.
use Prim.Native.Nat.{ℕ, zero, suc, ◌+◌, ◌-◌, ◌*◌, ◌/◌, ◌%◌, ◌≤◌, ◌<◌}
use mathlib.Core.Path.{◌≡◌, refl, sym, ap, ◌∙◌}
use mathlib.Core.List.{List, [], ◌∷◌, ◌++◌}
use native.Mathlib.Omega.{arith}
use native.Mathlib.Nat.{not-suc-le-zero, le_of_suc-le-suc, le_trans}
use lib.ListN.{length, get_or, set, replicate, length-set, length-replicate}
use lib.Seq.{get_or-set_other, get_or-set_same}
use lib.Ieee.{Float, nan, neg}
use Rattle.floats.specs.Numbers.{+0}
use Rattle.areas.specs.Parts.{part}
use Rattle.readings.specs.Channels.{channel_of}
use Rattle.areas.proofs.PartLaws.{part_at, part_above, push, tab_at}
use Rattle.areas.specs.Cleared.{Cleared}
use Rattle.areas.proofs.ClearedLaws.{cleared_part}
use Rattle.sums.specs.Sums.{mean_of, centred_to, squares_to}
use Rattle.sums.specs.EachChannel.{Sums, RanEach}
use Rattle.sums.proofs.ChannelLaws.{fits, mul_more, mul_room}
use Rattle.search_rules.specs.Inequality.{state_after}
use Rattle.inequality.specs.declared.Plan.{Plan}
use Rattle.inequality.specs.Inner.Held.{Room, run_of, Holds}
use Rattle.inequality.proofs.WeightLaws.{twice}

-- ---- every part by index
run_held : {run : List Float} {n k : ℕ} {area : List Float} (r i : ℕ) → Sums run n k area → r < 2 * k → i ≤ n → get_or area (r * (n + 1) + i) nan ≡ run_of run n r i
unfolding run_of
run_held {run} {n} {k} {area} r i s h l = go (r % 2) refl
  where
    go : (d : ℕ) → r % 2 ≡ d → get_or area (r * (n + 1) + i) nan ≡ run_of run n r i
    go zero e =
        let c = r / 2 in
        let xs = channel_of run n c in
        let place : r * (n + 1) ≡ c * (2 * (n + 1)) = let f : r ≡ 2 * c = omega arith in ap (λ (a : ℕ). a * (n + 1)) f ∙ twice c (n + 1) in
        rw e
        (ap (λ (a : ℕ). get_or area (a + i) nan) place
        ∙ part_at area (c * (2 * (n + 1))) (n + 1) i nan (omega arith)
        ∙ ap (λ (a : List Float). get_or a i nan) (s.channel c (omega arith)).sums
        ∙ tab_at (centred_to xs (mean_of xs)) (n + 1) i nan (omega arith))
    go (suc d) e =
        let c = r / 2 in
        let xs = channel_of run n c in
        let f : r ≡ 2 * c + 1 = omega arith in
        let one : r % 2 ≡ 1 = omega arith in
        let place : r * (n + 1) ≡ c * (2 * (n + 1)) + (n + 1) = ap (λ (a : ℕ). a * (n + 1)) f ∙ mul_more (2 * c) (n + 1) ∙ ap (λ (a : ℕ). a + (n + 1)) (twice c (n + 1)) in
        rw one
        (ap (λ (a : ℕ). get_or area (a + i) nan) place
        ∙ part_at area (c * (2 * (n + 1)) + (n + 1)) (n + 1) i nan (omega arith)
        ∙ ap (λ (a : List Float). get_or a i nan) (s.channel c (omega arith)).squares
        ∙ tab_at (squares_to xs (mean_of xs)) (n + 1) i nan (omega arith))

empty_part : (l : List ℕ) (b : ℕ) (rest : List ℕ) → part l b 0 ++ rest ≡ rest
unfolding part
empty_part l b rest = refl

-- what holds of the one candidate, 0, holds of each
only : (P : ℕ → ℕ → Type 0) → P 0 0 → (j : ℕ) → j < length {A = ℕ} (0 ∷ []) → P j (get_or {A = ℕ} (0 ∷ []) j 0)
only P p zero l = p
only P p (suc j) l = absurd (not-suc-le-zero (le_of_suc-le-suc l))

pub begun : (run : List Float) (q : Plan) (xs xs₁ : List Float) (ix ix₁ : List ℕ) (v : Float) → Room q (length xs) (length ix) → q.channels * q.n ≤ length run
    → RanEach run q.n q.channels xs xs₁ → Cleared 0 ix ix₁ 0 (q.n + 1) → v ≡ neg q.penalty → Holds run q (set xs₁ q.f v) (set ix₁ q.c 0) 1 q.m
unfolding state_after
begun run q xs xs₁ ix ix₁ v room h su is e =
    let w = q.n + 1 in
    let fit = fits (length run) q.n q.channels (length xs) room.few room.short h (omega (arith, twice q.channels w)) in
    let sums = su.written fit in
    let long : length xs₁ ≡ length xs = (su.frame fit).long in
    let floats : length (set xs₁ q.f v) ≡ length xs = length-set xs₁ q.f v ∙ long in
    let indices : length (set ix₁ q.c 0) ≡ length ix = length-set ix₁ q.c 0 ∙ is.frame.long in
    let none : q.m - q.m ≡ 0 = omega arith in
    let held : (r i : ℕ) → r < 2 * q.channels → i ≤ q.n → get_or (set xs₁ q.f v) (r * w + i) nan ≡ run_of run q.n r i =
    λ r i l m. get_or-set_other xs₁ q.f (r * w + i) v nan (omega (arith, mul_room r (2 * q.channels) w l)) ∙ run_held r i sums l m in
    let first : get_or (set xs₁ q.f v) (q.f + 0) nan ≡ get_or (set (replicate w +0) 0 (neg q.penalty)) 0 nan =
    let o : q.f + 0 ≡ q.f = omega arith in
    ap (λ (k : ℕ). get_or (set xs₁ q.f v) k nan) o ∙ get_or-set_same xs₁ q.f v nan (omega arith) ∙ e ∙ sym (get_or-set_same (replicate w +0) 0 (neg q.penalty) nan (rw (length-replicate) (omega arith))) in
    rw none
    (record {
      room = rw (floats, indices) room;
      below = record { below = only (λ j tau. tau < q.m) room.some };
      rising = record { rising = λ i j l m. absurd (not-suc-le-zero (le_trans l (le_of_suc-le-suc m))) };
      long = length-set (replicate w +0) 0 (neg q.penalty) ∙ length-replicate w +0;
      from = omega arith;
      few = omega arith;
      candidates = push ix₁ q.c 0 q.c 0 (omega arith) (omega (arith, is.frame.long)) ∙ empty_part ix₁ q.c (0 ∷ []);
      last = part_above ix₁ 0 w q.c 0 (omega arith) ∙ cleared_part is (omega arith);
      runs = record {
        front = λ r j l m. only (λ i tau. get_or (set xs₁ q.f v) (r * w + i) nan ≡ run_of run q.n r tau) (held r 0 l (omega arith)) j m;
        left = λ r i l m n. held r i l n;
        least = only (λ j tau. get_or (set xs₁ q.f v) (q.f + j) nan ≡ get_or (set (replicate w +0) 0 (neg q.penalty)) tau nan) first;
      };
    })
