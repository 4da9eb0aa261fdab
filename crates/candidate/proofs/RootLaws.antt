-- `cut_losing` by the balls of an area is that of the list which the area stands for, on one channel where each ball stands there with its root. Assumes nothing.
use Prim.Native.Nat.compare
use Prim.Native.Nat.{Ordering}
use Prim.Native.Nat.{ℕ, zero, suc, ◌*◌, ◌<◌, compare}
use mathlib.Core.Bool.{Bool, true, false, cond, false≢true}
use mathlib.Core.Path.{◌≡◌, refl, sym, ap, ◌∙◌}
use mathlib.Core.List.{List}
use borrow.Author.Tests.{eq-eqb, ne_eqb, le-ltb}
use native.Mathlib.Decide.{ℕ_discrete}
use native.Mathlib.Nat.{zero-div, zero-mod, sub_self, mul-pos}
use native.Mathlib.Omega.{arith}
use lib.Dec.{eqb}
use lib.ListN.{length}
use lib.Ieee.{Float, nan, inf, fin, binary64, down, up, add, sub, neg, sum, round, units, odd, size, lt, le, eq}
use lib.Ieee.Fits.{down_pos}
use Rattle.floats.specs.Numbers.{◌-ᶠ◌, ◌<ᶠ◌, +0}
use Rattle.floats.specs.Finite.{finite}
use Rattle.elementary.specs.Root.{sqrt}
use Rattle.candidate_sides.proofs.SlabLaws.{ends_outside}
use Rattle.areas.specs.Parts.{tab}
use Rattle.areas.proofs.PartLaws.{tab_length, tab_at}
use Rattle.candidate.specs.declared.Candidate.{Candidate}
use Rattle.candidate_balls.specs.declared.Ball.{Ball}
use Rattle.candidate.specs.Boxes.{Span, at, span_at, with_span, over_channels, along_each}
use Rattle.candidate.specs.Balls.{ball_at, held_at, held, meant, balls_at, Rooted, has_room}
use Rattle.candidate.specs.Cuts.{far2, inside, cut_ends, cut_span, cut_by, cut_to, cut_losing, cut_by_root, cut_rooted, cut_in}

-- ---- a finite number less itself is +0
above_nothing : (u : ℕ) → 0 < u → compare 0 u ≡ Ordering.lt
above_nothing zero h = elim h [ ]
above_nothing (suc u) h = compare.zero-suc u

round_nothing : (c : ℕ) → 0 < c → round binary64 false 0 c ≡ +0
unfolding round units odd size
round_nothing c h = rw (zero-div c, zero-div (c * 1), zero-mod (c * 1), above_nothing (c * 1) (omega arith)) refl

pub less_itself : (x : Float) → finite x ≡ true → x -ᶠ x ≡ +0
unfolding sub add neg sum
less_itself nan e = absurd (false≢true e)
less_itself (inf s) e = absurd (false≢true e)
less_itself (fin false m e) f =
    let a = m * up e * down e in
    rw (le-ltb a a (omega arith), sub_self a) (round_nothing (down e * down e) (mul-pos (down_pos e) (down_pos e)))
less_itself (fin true m e) f =
    let a = m * up e * down e in
    rw (le-ltb a a (omega arith), sub_self a) (round_nothing (down e * down e) (mul-pos (down_pos e) (down_pos e)))

less_infinity : (s : Bool) → inf s -ᶠ inf s ≡ nan
unfolding sub add neg
less_infinity true = refl
less_infinity false = refl

-- ---- what is no number cuts nothing
less_nan : (x : Float) → x -ᶠ nan ≡ nan
unfolding sub add neg
less_nan nan = refl
less_nan (inf s) = refl
less_nan (fin s m e) = refl

below_nan : (x : Float) → (x <ᶠ nan) ≡ false
unfolding lt
below_nan nan = refl
below_nan (inf s) = refl
below_nan (fin s m e) = refl

root_nan : sqrt nan ≡ nan
unfolding sqrt
root_nan = refl

inside_nan : (c v : Float) → inside c nan v ≡ false
unfolding inside le lt eq
inside_nan c v = rw (less_nan c) refl

cut_nan : (s : Span) (c r2 rest : Float) → rest ≡ nan → cut_span s c r2 rest ≡ s
unfolding cut_span
cut_nan s c r2 rest e = rw (e, below_nan r2, less_nan r2, root_nan) (ends_outside s c nan (inside_nan c s.lo) (inside_nan c s.hi))

-- ---- one ball
cut_whole : (s : Span) (c r2 w : Float) → (r2 <ᶠ +0) ≡ false → w ≡ sqrt (r2 -ᶠ +0) → cut_span s c r2 +0 ≡ cut_ends s c w
unfolding cut_span
cut_whole s c r2 w e q = rw (e, ← q) refl

root_is : (s : Span) (c r2 w : Float) → (r2 <ᶠ +0) ≡ false → w ≡ sqrt (r2 -ᶠ +0) → cut_by_root s c w ≡ cut_span s c r2 (far2 s c -ᶠ far2 s c)
unfolding cut_by_root
root_is s c r2 w e q = side (far2 s c)
  where
    side : (f : Float) → cond (finite f) (cut_ends s c w) s ≡ cut_span s c r2 (f -ᶠ f)
    side nan = sym (cut_nan s c r2 (nan -ᶠ nan) (less_nan nan))
    side (inf t) = sym (cut_nan s c r2 (inf t -ᶠ inf t) (less_infinity t))
    side (fin t m k) = sym (cut_whole s c r2 w e q) ∙ ap (cut_span s c r2) (sym (less_itself (fin t m k) refl))

pub cut_one_is : (b : Ball) (x : Candidate) → Rooted b → cut_rooted b x ≡ cut_by 1 (meant 1 b) x
unfolding cut_rooted cut_by over_channels along_each meant
cut_one_is b x r = ap (λ (s : Span). with_span 0 s x) (root_is (span_at x 0) (at b.centre 0) b.r2 (at b.centre 1) r.above r.root)

pub cut_two_is : (channels : ℕ) (b : Ball) (x : Candidate) → (channels ≡ 1 → ⊥) → cut_by 2 b x ≡ cut_by channels (meant channels b) x
unfolding cut_by over_channels along_each meant
cut_two_is channels b x two = rw (ne_eqb channels 1 two) refl

-- ---- all of them
cut_same : (f g : Ball → Candidate → Candidate) (bs cs : List Ball) (x : Candidate) (n : ℕ) → ((i : ℕ) → i < n → (y : Candidate) → f (ball_at bs i) y ≡ g (ball_at cs i) y) → cut_to f bs x n ≡ cut_to g cs x n
unfolding cut_to
cut_same f g bs cs x zero e = refl
cut_same f g bs cs x (suc n) e =
    let s = cut_same f g bs cs x n (λ i h y. e i (omega arith) y) in
    rw (s, e n (omega arith) (cut_to g cs x n)) refl

pub cut_in_lem : (channels : ℕ) (area : List Float) (place count : ℕ) (x : Candidate) → has_room (length area) place count ≡ true
    → (channels ≡ 1 → (i : ℕ) → i < count → Rooted (held_at area place i)) → cut_in channels area place count x ≡ cut_losing channels (balls_at channels area place count) x
unfolding cut_in cut_losing held balls_at
cut_in_lem channels area place count x room roots = rw (room, tab_length (λ i. meant channels (held_at area place i)) count) (go (ℕ_discrete channels 1))
  where
    here : (i : ℕ) → i < count → ball_at (tab (held_at area place) count) i ≡ held_at area place i
    here i h = tab_at (held_at area place) count i _ h

    there : (i : ℕ) → i < count → ball_at (tab (λ j. meant channels (held_at area place j)) count) i ≡ meant channels (held_at area place i)
    there i h = tab_at (λ j. meant channels (held_at area place j)) count i _ h

    go : Dec (channels ≡ 1) → cut_to (cond (eqb channels 1) cut_rooted (cut_by 2)) (tab (held_at area place) count) x count ≡ cut_to (cut_by channels) (tab (λ i. meant channels (held_at area place i)) count) x count
    go (yes one) =
        rw (eq-eqb channels 1 one)
        (cut_same cut_rooted (cut_by channels) (tab (held_at area place) count) (tab (λ i. meant channels (held_at area place i)) count) x count
        (λ i h y. rw (here i h, there i h, one) (cut_one_is (held_at area place i) y (roots one i h))))
    go (no two) =
        rw (ne_eqb channels 1 two)
        (cut_same (cut_by 2) (cut_by channels) (tab (held_at area place) count) (tab (λ i. meant channels (held_at area place i)) count) x count
        (λ i h y. rw (here i h, there i h) (cut_two_is channels (held_at area place i) y two)))
