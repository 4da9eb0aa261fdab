-- Laws of the area that the cuts are written to: the last cut is written first, room enough, and that one outcome alone meets `Backtracked`. Assumes nothing.
use Prim.Native.Nat.{ℕ, ◌≤◌}
use mathlib.Core.Path.{◌≡◌, refl, sym, ap, ◌∙◌}
use mathlib.Core.List.{List, [], ◌∷◌, ◌++◌}
use lib.ListN.{length, drop, set}
use lib.Seq.{take_all, take-nil, drop-nil}
use Rattle.std.specs.Prelude.{reverse}
use Rattle.std.proofs.lemmas.List.{reverse-append, length-reverse}
use Rattle.backtrack.specs.Cuts.{written}
use Rattle.backtrack.specs.Backtracked.{Backtracked}

pub written_none : (area : List ℕ) → written [] area ≡ area
unfolding written
written_none area = rw (take-nil (length area)) refl

written_no_room : (cs : List ℕ) → written cs [] ≡ []
unfolding written
written_no_room cs = drop-nil (length cs)

written_one : (c x : ℕ) (cs area : List ℕ) → written (c ∷ cs) (x ∷ area) ≡ c ∷ written cs area
unfolding written
written_one c x cs area = refl

pub written_last : (cs : List ℕ) (c : ℕ) (area : List ℕ) → written (cs ++ (c ∷ [])) area ≡ written cs (set area (length cs) c)
written_last [] c [] = written_no_room (c ∷ []) ∙ sym (written_none [])
written_last [] c (x ∷ area) = written_one c x [] area ∙ ap (λ (l : List ℕ). c ∷ l) (written_none area) ∙ sym (written_none (c ∷ area))
written_last (d ∷ cs) c [] = written_no_room (d ∷ (cs ++ (c ∷ []))) ∙ sym (written_no_room (d ∷ cs))
written_last (d ∷ cs) c (x ∷ area) =
    written_one d x (cs ++ (c ∷ [])) area
    ∙ ap (λ (l : List ℕ). d ∷ l) (written_last cs c area)
    ∙ sym (written_one d x cs (set area (length cs) c))

-- one turn of the walk back, which has `cut` and then `rest` before it, writes the last of the cuts that are left
pub written_turn : (rest : List ℕ) (cut : ℕ) (area : List ℕ) → written (reverse (cut ∷ rest)) area ≡ written (reverse rest) (set area (length rest) cut)
written_turn rest cut area =
    ap (λ (cs : List ℕ). written cs area) (reverse-append (cut ∷ []) rest)
    ∙ written_last (reverse rest) cut area
    ∙ ap (λ (place : ℕ). written (reverse rest) (set area place cut)) (length-reverse rest)

-- ---- room enough
pub written_room : (cs area : List ℕ) → length cs ≤ length area → written cs area ≡ cs ++ drop (length cs) area
unfolding written
written_room cs area h = rw (take_all (length area) cs h) refl

-- ---- one outcome
pub count_once : {indices : List ℕ} {n : ℕ} {before y z : List ℕ} {r s : ℕ} → Backtracked indices n before y r → Backtracked indices n before z s → r ≡ s
count_once a b = a.count ∙ sym b.count

pub cuts_once : {indices : List ℕ} {n : ℕ} {before y z : List ℕ} {r s : ℕ} → Backtracked indices n before y r → Backtracked indices n before z s → y ≡ z
cuts_once a b = a.cuts ∙ sym b.cuts
