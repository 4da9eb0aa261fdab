-- Laws of the minimum over the weights that the floats hold: one candidate more, and four that are not below it. Assumes nothing.
use Prim.Native.Nat.{ℕ, ◌+◌}
use mathlib.Core.Path.{◌≡◌, refl, sym, ap, ap₂, ◌∙◌}
use mathlib.Core.Bool.{Bool, true, false, ◌||◌, true≢false}
use mathlib.Core.List.{List, ◌++◌}
use native.Mathlib.Omega.{arith}
use native.Mathlib.Numerals.{add-one}
use lib.ListN.{length, get_or, take}
use Rattle.std.proofs.lemmas.List.{drop_at}
use Rattle.areas.specs.Parts.{part}
use lib.Ieee.{Float, nan}
use Rattle.floats.specs.Numbers.{◌+ᶠ◌, ◌<ᶠ◌}
use Rattle.search_rules.specs.declared.Best.{Best}
use Rattle.search_rules.specs.Minimum.{better_of}
use Rattle.inequality.specs.Inner.Weights.{lowest_by}

pub lowest_more : (penalty : Float) (xs : List Float) (ix : List ℕ) (j : ℕ) (b : Best) (total : Float) (tau : ℕ) → b ≡ lowest_by penalty xs ix j
    → total ≡ get_or xs j nan +ᶠ penalty → tau ≡ get_or ix j 0 → better_of b total tau ≡ lowest_by penalty xs ix (j + 1)
unfolding lowest_by
lowest_more penalty xs ix j b total tau e f g = rw (add-one, e, f, g)

-- a candidate whose total is not below the best so far
lowest_same : (penalty : Float) (xs : List Float) (ix : List ℕ) (j i : ℕ) (b : Best) → b ≡ lowest_by penalty xs ix j → i ≡ j → (get_or xs i nan +ᶠ penalty <ᶠ b.cost) ≡ false
    → b ≡ lowest_by penalty xs ix (j + 1)
unfolding lowest_by better_of
lowest_same penalty xs ix j i b e f h = rw (add-one, ← e, ← f, h) refl

none_of : (a b : Bool) → (a || b) ≡ false → (a ≡ false) × (b ≡ false)
none_of true b e = absurd (true≢false e)
none_of false b e = (refl, e)

-- four candidates whose totals are not below the best so far
pub lowest_four : (penalty : Float) (xs : List Float) (ix : List ℕ) (j i k : ℕ) (b : Best) → b ≡ lowest_by penalty xs ix j → i ≡ j → k ≡ j + 4
    → (((get_or xs i nan +ᶠ penalty <ᶠ b.cost || get_or xs (i + 1) nan +ᶠ penalty <ᶠ b.cost) || get_or xs (i + 2) nan +ᶠ penalty <ᶠ b.cost) || get_or xs (i + 3) nan +ᶠ penalty <ᶠ b.cost) ≡ false
    → b ≡ lowest_by penalty xs ix k
lowest_four penalty xs ix j i k b e f g h =
    let three = none_of _ _ h in
    let two = none_of _ _ three.0 in
    let one = none_of _ _ two.0 in
    let first = lowest_same penalty xs ix j i b e f one.0 in
    let second = lowest_same penalty xs ix (j + 1) (i + 1) b first (omega arith) one.1 in
    let third = lowest_same penalty xs ix (j + 1 + 1) (i + 2) b second (omega arith) two.1 in
    let fourth = lowest_same penalty xs ix (j + 1 + 1 + 1) (i + 3) b third (omega arith) three.1 in
    let same : j + 1 + 1 + 1 + 1 ≡ k = omega arith in
    fourth ∙ ap (lowest_by penalty xs ix) same

-- the best by slices of the areas: the weights `ws` stand behind the parts `xs`, the candidates `cs` behind the predecessors `ps`
pub lowest_slices : (penalty : Float) (xs ws : List Float) (ps cs : List ℕ) (p c n m : ℕ) (b : Best) → length xs ≡ p → length ps ≡ c → m ≡ n → b ≡ lowest_by penalty (take n ws) (take n cs) m
    → b ≡ lowest_by penalty (part (xs ++ ws) p n) (part (ps ++ cs) c n) n
unfolding part
lowest_slices penalty xs ws ps cs p c n m b l k e h =
    h ∙ ap (lowest_by penalty (take n ws) (take n cs)) e ∙ ap₂ (λ (v : List Float) (u : List ℕ). lowest_by penalty v u n) (ap (take n) (sym (drop_at xs ws p l))) (ap (take n) (sym (drop_at ps cs c k)))
