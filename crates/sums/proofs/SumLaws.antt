-- Laws of the sums: each grows by one reading, and what a loop of stores leaves of them in an area. Assumes nothing.
use Rattle.std.proofs.Common.{◌≡◌, ℕ, ◌+◌, ◌-◌, ◌*◌, ◌/◌, ◌<◌, ◌≤◌, Bool, true, false, ltb, leb, List, length, get_or, set, sym, refl, ◌∙◌, subst, true≢false, add-one, arith, length-set, ltb-false, ltb-true, le-leb, leb-true}
use borrow.Author.Tests.{lt-leb}
use lib.Ieee.{Float, nan}
use Rattle.floats.specs.Numbers.{◌+ᶠ◌, ◌-ᶠ◌, ◌*ᶠ◌, +0}
use Rattle.areas.specs.Parts.{part, tab, Frame}
use Rattle.areas.proofs.PartLaws.{grow, part_below, part_above, frame_refl, frame_set, frame_trans}
use Rattle.sums.specs.Sums.{sum_to, centred, centred_to, squares_to, Summed, Ran, two_runs}

pub sum_more : (xs : List Float) (i : ℕ) (s : Float) → s ≡ sum_to xs i → s +ᶠ get_or xs i nan ≡ sum_to xs (i + 1)
unfolding sum_to
sum_more xs i s e = rw (add-one, e)

pub centred_more : (xs : List Float) (mean : Float) (i : ℕ) (s : Float) → s ≡ centred_to xs mean i → s +ᶠ (get_or xs i nan -ᶠ mean) ≡ centred_to xs mean (i + 1)
unfolding centred_to centred
centred_more xs mean i s e = rw (add-one, e)

pub squares_more : (xs : List Float) (mean : Float) (i : ℕ) (s : Float) → s ≡ squares_to xs mean i
    → s +ᶠ (get_or xs i nan -ᶠ mean) *ᶠ (get_or xs i nan -ᶠ mean) ≡ squares_to xs mean (i + 1)
unfolding squares_to centred
squares_more xs mean i s e = rw (add-one, e)

-- `after` holds the sums of 0 to `i` readings and of their squares, in the part of `before` at `place` that has room for those of `n`
pub record SummedTo (xs : List Float) (mean : Float) (i n : ℕ) (before after : List Float) (place : ℕ) : Type 0 where
  pub sums : part after place (i + 1) ≡ tab (centred_to xs mean) (i + 1)
  pub squares : part after (place + (n + 1)) (i + 1) ≡ tab (squares_to xs mean) (i + 1)
  pub frame : Frame before after place (2 * (n + 1))

pub summed_none : (xs : List Float) (mean : Float) (n : ℕ) (area : List Float) (place j : ℕ) (a b : Float) → place + 2 * (n + 1) ≤ length area → j ≡ place + (n + 1)
    → a ≡ +0 → b ≡ +0 → SummedTo xs mean 0 n area (set (set area place a) j b) place
unfolding tab centred_to squares_to part
summed_none xs mean n area place j a b h e p q =
    record {
      sums =
          part_above (set area place a) place 1 j b (omega arith)
          ∙ grow (centred_to xs mean) area place 0 place a refl (omega arith) (omega arith) p;
      squares = grow (squares_to xs mean) (set area place a) (place + (n + 1)) 0 j b refl (omega arith) (simp length-set (omega arith)) q;
      frame = frame_set j b (frame_set place a (frame_refl area place (2 * (n + 1))) (omega arith) (omega arith)) (omega arith) (omega arith);
    }

pub summed_more : (xs : List Float) (mean : Float) (i n : ℕ) (x y : List Float) (place j k : ℕ) (a b : Float) → SummedTo xs mean i n x y place
    → place + 2 * (n + 1) ≤ length y → i < n → j ≡ place + (i + 1) → k ≡ place + (n + 1) + (i + 1) → a ≡ centred_to xs mean (i + 1) → b ≡ squares_to xs mean (i + 1)
    → SummedTo xs mean (i + 1) n x (set (set y j a) k b) place
summed_more xs mean i n x y place j k a b r h l e f p q =
    record {
      sums =
          part_above (set y j a) place (i + 1 + 1) k b (omega arith)
          ∙ grow (centred_to xs mean) y place (i + 1) j a r.sums e (omega arith) p;
      squares =
          grow (squares_to xs mean) (set y j a) (place + (n + 1)) (i + 1) k b (part_below y (place + (n + 1)) (i + 1) j a (omega arith) ∙ r.squares) f (simp length-set (omega arith)) q;
      frame = frame_set k b (frame_set j a r.frame (omega arith) (omega arith)) (omega arith) (omega arith);
    }

-- the same with the area as it is now for `before`, and with an earlier one
pub summed_here : {xs : List Float} {mean : Float} {i n : ℕ} {x y : List Float} {place : ℕ} → SummedTo xs mean i n x y place → SummedTo xs mean i n y y place
summed_here {n = n} {y = y} {place = place} r = record { sums = r.sums; squares = r.squares; frame = frame_refl y place (2 * (n + 1)) }

pub summed_since : {xs : List Float} {mean : Float} {i n : ℕ} {w x y : List Float} {place : ℕ} → Frame w x place (2 * (n + 1)) → SummedTo xs mean i n x y place → SummedTo xs mean i n w y place
summed_since f r = record { sums = r.sums; squares = r.squares; frame = frame_trans f r.frame }

pub summed_all : {xs : List Float} {mean : Float} {i n : ℕ} {x y : List Float} {place : ℕ} → i ≡ n → SummedTo xs mean i n x y place → Summed xs mean n x y place
summed_all {xs} {mean} {i} {n} {x} {y} {place} e r =
    let s = subst (λ (k : ℕ). SummedTo xs mean k n x y place) e r in
    record { held = record { sums = s.sums; squares = s.squares }; frame = s.frame }

-- ---- the room
pub half_room : (size n place : ℕ) → place ≤ size → ltb n ((size - place) / 2) ≡ two_runs size n place
unfolding two_runs
half_room size n place h = side (ltb n ((size - place) / 2)) refl
  where
    halves : (r : ℕ) → 2 * (r / 2) ≤ r
    halves r = omega arith

    less : (r : ℕ) → r < 2 * (r / 2 + 1)
    less r = omega arith

    side : (b : Bool) → ltb n ((size - place) / 2) ≡ b → ltb n ((size - place) / 2) ≡ leb (place + 2 * (n + 1)) size
    side true e = e ∙ sym (le-leb (place + 2 * (n + 1)) size (omega (arith, ltb-true n ((size - place) / 2) e, halves (size - place))))
    side false e = e ∙ sym (lt-leb (place + 2 * (n + 1)) size (omega (arith, ltb-false n ((size - place) / 2) e, less (size - place))))

pub no_room : (size n place : ℕ) → size < place → two_runs size n place ≡ false
unfolding two_runs
no_room size n place h = lt-leb (place + 2 * (n + 1)) size (omega arith)

pub has_room : (size n place : ℕ) → two_runs size n place ≡ true → place + 2 * (n + 1) ≤ size
unfolding two_runs
has_room size n place e = leb-true _ _ e

-- ---- with room, and without
pub ran_written : {xs : List Float} {mean : Float} {before after : List Float} {place : ℕ} → two_runs (length before) (length xs) place ≡ true
    → Summed xs mean (length xs) before after place → Ran xs mean before after place
ran_written e s = record { written = λ f. s; unchanged = λ f. absurd (true≢false (sym e ∙ f)) }

pub ran_unchanged : {xs : List Float} {mean : Float} {area : List Float} {place : ℕ} → two_runs (length area) (length xs) place ≡ false → Ran xs mean area area place
ran_unchanged e = record { written = λ f. absurd (true≢false (sym f ∙ e)); unchanged = λ f. refl }
