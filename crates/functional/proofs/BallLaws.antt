-- Laws of the balls of a candidate in an area of 192 floats: none, one more, and what they cut. Assumes nothing.
use Prim.Native.Nat.{ℕ, ◌+◌, ◌≤◌, ◌<◌}
use mathlib.Core.Bool.{true}
use mathlib.Core.Path.{◌≡◌, refl, ap, ◌∙◌, subst}
use mathlib.Core.List.{List, []}
use native.Mathlib.Omega.{arith}
use native.Mathlib.Nat.{not-suc-le-zero}
use native.Mathlib.Numerals.{add-one}
use borrow.Author.Tests.{le-leb}
use lib.ListN.{length}
use lib.Ieee.{Float}
use Rattle.areas.specs.Parts.{tab}
use Rattle.areas.proofs.PartLaws.{tab_same}
use Rattle.candidate.specs.declared.Candidate.{Candidate}
use Rattle.candidate_balls.specs.declared.Ball.{Ball}
use Rattle.candidate.specs.Balls.{held_at, balls_at, meant, has_room}
use Rattle.candidate.specs.Cuts.{cut_losing, cut_in}
use Rattle.candidate.proofs.RootLaws.{cut_in_lem}
use Rattle.candidate.specs.Losses.{lose_inside}
use Rattle.candidate_balls.specs.Losing.{Lost}
use Rattle.candidate.proofs.AreaLaws.{lost_balls, lost_frame, lost_few, lost_rooted}
use Rattle.functional.specs.Inner.Held.{Balls, lost_by}

-- ---- an area of its own
room_here : (area : List Float) (place count : ℕ) → place + 192 ≤ length area → count ≤ 64 → has_room (length area) place count ≡ true
unfolding has_room
room_here area place count h l = rw (le-leb count 64 l, le-leb (place + 192) (length area) h) refl

pub balls_none : (channels : ℕ) (area : List Float) → Balls channels area 0 []
unfolding balls_at tab
balls_none channels area = record { list = refl; few = omega arith; rooted = λ e i h. absurd (not-suc-le-zero h) }

pub balls_more : {channels : ℕ} {before after : List Float} {count : ℕ} {bs : List Ball} {b : Ball} {r : ℕ} → Balls channels before count bs → length before ≡ 192
    → Lost channels before after 0 count b r → Balls channels after r (lose_inside (meant channels b) bs)
balls_more {channels} {before} {after} {count} {bs} {b} {r} k e l =
    let room = room_here before 0 count (omega arith) k.few in
    record {
      list = lost_balls room l ∙ ap (lose_inside (meant channels b)) k.list;
      few = lost_few room l;
      rooted = λ one. lost_rooted room l one (k.rooted one);
    }

pub balls_long : {channels : ℕ} {before after : List Float} {count : ℕ} {bs : List Ball} {b : Ball} {r : ℕ} → Balls channels before count bs → length before ≡ 192
    → Lost channels before after 0 count b r → length after ≡ 192
balls_long {before = before} {count = count} k e l = (lost_frame (room_here before 0 count (omega arith) k.few) l).long ∙ e

pub lost_more : {channels : ℕ} (g : ℕ → Ball) (area : List Float) (r j : ℕ) → Balls channels area r (lose_inside (meant channels (g j)) (lost_by channels g j)) → Balls channels area r (lost_by channels g (j + 1))
unfolding lost_by
lost_more {channels} g area r j k = rw add-one k

-- what they cut
pub balls_cut : {channels : ℕ} {area : List Float} {count : ℕ} {bs : List Ball} (x : Candidate) → Balls channels area count bs → 192 ≤ length area
    → cut_in channels area 0 count x ≡ cut_losing channels bs x
balls_cut {channels} {area} {count} x k h = cut_in_lem channels area 0 count x (room_here area 0 count (omega arith) k.few) k.rooted ∙ ap (λ (l : List Ball). cut_losing channels l x) k.list

-- ---- areas that hold the same balls
pub balls_same : (channels : ℕ) (x y : List Float) (p q count : ℕ) → ((i : ℕ) → i < count → held_at y q i ≡ held_at x p i) → balls_at channels y q count ≡ balls_at channels x p count
unfolding balls_at
balls_same channels x y p q count f = tab_same (λ i. meant channels (held_at y q i)) (λ i. meant channels (held_at x p i)) count (λ i h. ap (meant channels) (f i h))

pub balls_kept : {channels : ℕ} {x : List Float} {count : ℕ} {bs : List Ball} (y : List Float) → ((i : ℕ) → i < count → held_at y 0 i ≡ held_at x 0 i) → Balls channels x count bs → Balls channels y count bs
balls_kept {channels} {x} {count} y f k =
    record { list = balls_same channels x y 0 0 count f ∙ k.list; few = k.few; rooted = λ one i h. rw (f i h) (k.rooted one i h) }

pub lost_all : (channels : ℕ) (g : ℕ → Ball) (area : List Float) (r : ℕ) {i j : ℕ} → i ≡ j → Balls channels area r (lost_by channels g i) → Balls channels area r (lost_by channels g j)
lost_all channels g area r e k = subst (λ (n : ℕ). Balls channels area r (lost_by channels g n)) e k

pub balls_met : {channels : ℕ} {before after : List Float} {count : ℕ} (g : ℕ → Ball) (j : ℕ) {b : Ball} {r : ℕ} → Balls channels before count (lost_by channels g j) → length before ≡ 192
    → Lost channels before after 0 count b r → b ≡ g j → Balls channels after r (lost_by channels g (j + 1))
balls_met {channels} {before} {after} {count} g j {b} {r} k e l q =
    lost_more g after r j (subst (λ (c : Ball). Balls channels after r (lose_inside (meant channels c) (lost_by channels g j))) q (balls_more k e l))

pub balls_self : {channels : ℕ} {area : List Float} {count : ℕ} {bs : List Ball} → Balls channels area count bs → Balls channels area count (balls_at channels area 0 count)
balls_self k = record { list = refl; few = k.few; rooted = k.rooted }
