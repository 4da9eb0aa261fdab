-- The contracts of `cumulative_sums` and `channel_sums` allow one area. Assumes nothing.
use Rattle.std.proofs.Common.{◌≡◌, ℕ, zero, suc, ◌+◌, ◌*◌, ◌≤◌, Bool, true, false, List, ◌++◌, length, sym, refl, ap, ◌∙◌, ap₂, le_refl, le_of_lt, suc-mul, zero-add, zero-mul, arith}
use lib.Ieee.{Float}
use Rattle.areas.specs.Parts.{part, tab}
use Rattle.areas.proofs.PartLaws.{part_add, framed_once}
use Rattle.sums.specs.EachChannel.{Sums, sums_fit, RanEach}
use Rattle.sums.specs.Sums.{centred_to, squares_to, Held, Summed, Ran, two_runs}

pub both_runs : {xs : List Float} {mean : Float} {n : ℕ} {area : List Float} {place : ℕ} → Held xs mean n area place
    → part area place (2 * (n + 1)) ≡ tab (centred_to xs mean) (n + 1) ++ tab (squares_to xs mean) (n + 1)
both_runs {xs} {mean} {n} {area} {place} s =
    let e : 2 * (n + 1) ≡ (n + 1) + (n + 1) = omega arith in
    ap (part area place) e ∙ part_add area place (n + 1) (n + 1) ∙ ap₂ ◌++◌ s.sums s.squares

pub summed_once : {xs : List Float} {mean : Float} {n : ℕ} {before y z : List Float} {place : ℕ} → Summed xs mean n before y place → Summed xs mean n before z place → y ≡ z
summed_once s t = framed_once s.frame t.frame (both_runs s.held ∙ sym (both_runs t.held))

pub ran_once : {xs : List Float} {mean : Float} {before y z : List Float} {place : ℕ} → Ran xs mean before y place → Ran xs mean before z place → y ≡ z
ran_once {xs} {mean} {before} {y} {z} {place} s t = side (two_runs (length before) (length xs) place) refl
  where
    side : (b : Bool) → two_runs (length before) (length xs) place ≡ b → y ≡ z
    side true e = summed_once (s.written e) (t.written e)
    side false e = s.unchanged e ∙ sym (t.unchanged e)

nothing : (y z : List Float) → part y 0 0 ≡ part z 0 0
unfolding part
nothing y z = refl

sums_agree : {run : List Float} {n k : ℕ} {y z : List Float} → Sums run n k y → Sums run n k z → (c : ℕ) → c ≤ k → part y 0 (c * (2 * (n + 1))) ≡ part z 0 (c * (2 * (n + 1)))
sums_agree {n = n} {y = y} {z = z} s t zero h = let e : 0 * (2 * (n + 1)) ≡ 0 = zero-mul (2 * (n + 1)) in ap (part y 0) e ∙ nothing y z ∙ sym (ap (part z 0) e)
sums_agree {n = n} {y = y} {z = z} s t (suc c) h =
    let w = 2 * (n + 1) in
    let split : (l : List Float) → part l 0 (suc c * w) ≡ part l 0 (c * w) ++ part l (c * w) w = λ l. ap (part l 0) (suc-mul c w) ∙ part_add l 0 (c * w) w ∙ ap (λ (i : ℕ). part l 0 (c * w) ++ part l i w) (zero-add (c * w)) in
    split y
    ∙ ap₂ ◌++◌ (sums_agree s t c (le_of_lt h)) (both_runs (s.channel c h) ∙ sym (both_runs (t.channel c h)))
    ∙ sym (split z)

pub each_once : {run : List Float} {n k : ℕ} {before y z : List Float} → RanEach run n k before y → RanEach run n k before z → y ≡ z
each_once {run} {n} {k} {before} {y} {z} s t = side (sums_fit (length run) n k (length before)) refl
  where
    side : (b : Bool) → sums_fit (length run) n k (length before) ≡ b → y ≡ z
    side true e = framed_once (s.frame e) (t.frame e) (sums_agree (s.written e) (t.written e) k (le_refl k))
    side false e = s.unchanged e ∙ sym (t.unchanged e)
