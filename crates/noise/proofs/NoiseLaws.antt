-- Laws of the noise variance: fewer than 2 readings, the room for the differences, and the part that is cleared. Assumes nothing.
use Prim.Native.Nat.{ℕ, ◌+◌, ◌-◌, ◌*◌, ◌≤◌, ◌<◌}
use mathlib.Core.Path.{◌≡◌, refl, sym, ap, ap₂, ◌∙◌}
use mathlib.Core.Bool.{Bool, true, false, cond}
use mathlib.Core.List.{List, [], ◌++◌}
use native.Mathlib.Numerals.{add-one}
use native.Mathlib.Omega.{arith}
use borrow.Author.Tests.{lt-ltb, le-ltb, leb-true, le-leb, lt-leb, leb-false}
use lib.Dec.{leb}
use lib.ListN.{length, take, drop, replicate, take-append-drop, length-append, length-take, length-drop, length-replicate, replicate-append-replicate}
use lib.Seq.{drop-drop, take-take, take_at, drop_at, length-take-le}
use lib.Ieee.{Float, nan}
use Rattle.floats.specs.Numbers.{◌+ᶠ◌, +0}
use Rattle.floats.specs.MaxMin.{larger}
use Rattle.areas.specs.Parts.{part}
use Rattle.readings.specs.Channels.{has_channel, channel_of}
use Rattle.areas.proofs.PartLaws.{part_length}
use Rattle.areas.specs.Cleared.{Cleared}
use Rattle.areas.proofs.ClearedLaws.{cleared_part}
use Rattle.ranges.specs.Ranges.{range_of}
use Rattle.medians.specs.Median.{differences, median, Found}
use Rattle.medians.proofs.MedianLaws.{found_median}
use Rattle.noise.specs.Noise.{spread_of, floor_of, squared, noise, noise_sum_to, has_room, cleared, Lent}

-- ---- the variance
pub noise_of_few : (xs : List Float) → length xs < 2 → +0 ≡ noise xs
unfolding noise
noise_of_few xs h = rw (lt-ltb (length xs) 2 h)

pub noise_of_many : (xs : List Float) (m s : Float) → 2 ≤ length xs → m ≡ median (differences xs) → s ≡ larger (spread_of m) (floor_of (range_of xs)) → squared s ≡ noise xs
unfolding noise
noise_of_many xs m s h e f = rw (le-ltb (length xs) 2 h, f, e)

-- ---- the room
pub room_left : (size n place : ℕ) → place ≤ size → leb (n - 1) (size - place) ≡ has_room size n place
unfolding has_room
room_left size n place h = side (leb (n - 1) (size - place)) refl
  where
    side : (b : Bool) → leb (n - 1) (size - place) ≡ b → leb (n - 1) (size - place) ≡ leb (place + (n - 1)) size
    side true e = e ∙ sym (le-leb (place + (n - 1)) size (omega (arith, leb-true (n - 1) (size - place) e)))
    side false e = e ∙ sym (lt-leb (place + (n - 1)) size (omega (arith, leb-false (n - 1) (size - place) e)))

pub no_room : (size n place : ℕ) → size < place → false ≡ has_room size n place
unfolding has_room
no_room size n place h = sym (lt-leb (place + (n - 1)) size (omega arith))

pub has_room_lem : (size n place : ℕ) → has_room size n place ≡ true → place + (n - 1) ≤ size
unfolding has_room
has_room_lem size n place e = leb-true (place + (n - 1)) size e

room_is : (size n place : ℕ) → place + (n - 1) ≤ size → has_room size n place ≡ true
unfolding has_room
room_is size n place h = le-leb (place + (n - 1)) size h

-- ---- the part that is cleared
pub nothing_cleared : (area : List Float) (n place : ℕ) → n < 2 → area ≡ cleared area n place
unfolding cleared
nothing_cleared area n place h =
    let e : n - 1 ≡ 0 = omega arith in
    let f : place + 0 ≡ place = omega arith in
    rw (e, f) (sym (take-append-drop place area))

pub part_cleared : (area ys : List Float) (n place k : ℕ) → place + (n - 1) ≤ length area → k ≡ n - 1 → ys ≡ replicate (length (take k (drop place area))) +0
    → take place area ++ (ys ++ drop k (drop place area)) ≡ cleared area n place
unfolding cleared part
part_cleared area ys n place k h e f =
    let g : ys ≡ replicate k +0 = f ∙ ap (λ (m : ℕ). replicate m +0) (part_length area place k (omega arith)) in
    rw (g, drop-drop k place area, e)

-- the median by way of the `k` floats at `place`
pub part_median : (channel area ys : List Float) (place k : ℕ) {r : Float} → place + (length channel - 1) ≤ length area → 2 ≤ length channel → k ≡ length channel - 1 → Found channel (take k (drop place area)) ys r
    → (r ≡ median (differences channel)) × (ys ≡ replicate (length (take k (drop place area))) +0)
unfolding part
part_median channel area ys place k h l e f =
    let s : length (take k (drop place area)) ≡ k = part_length area place k (omega arith) in
    found_median (omega (arith, s, e, l)) (omega (arith, s, e, l)) f

pub place_cleared : (area ys : List Float) (n place k : ℕ) → place + (n - 1) ≤ length area → k ≡ n - 1 → Cleared +0 area ys place k → ys ≡ cleared area n place
unfolding cleared part
place_cleared area ys n place k h e s =
    let r = rw e at s in
    sym (take-append-drop place ys)
    ∙ ap₂ ◌++◌ r.frame.front (sym (take-append-drop (n - 1) (drop place ys)) ∙ ap₂ ◌++◌ (cleared_part r h) (drop-drop (n - 1) place ys ∙ r.frame.back))

-- what is cleared is +0 there, and clearing a part of it again changes nothing
take_replicate : (j k : ℕ) (v : Float) → j ≤ k → take j (replicate k v) ≡ replicate j v
take_replicate j k v h =
    let e : j + (k - j) ≡ k = omega arith in
    ap (λ (m : ℕ). take j (replicate m v)) (sym e)
    ∙ ap (take j) (sym (replicate-append-replicate j (k - j) v))
    ∙ take_at (replicate j v) (replicate (k - j) v) j (length-replicate j v)

zeros_there : (area : List Float) (n place : ℕ) → place + (n - 1) ≤ length area → part (cleared area n place) place (n - 1) ≡ replicate (n - 1) +0
unfolding cleared part
zeros_there area n place h =
    ap (take (n - 1)) (drop_at (take place area) (replicate (n - 1) +0 ++ drop (place + (n - 1)) area) place (length-take-le place area (omega arith)))
    ∙ take_at (replicate (n - 1) +0) (drop (place + (n - 1)) area) (n - 1) (length-replicate (n - 1) +0)

pub cleared_length : (area : List Float) (n place : ℕ) → place + (n - 1) ≤ length area → length (cleared area n place) ≡ length area
unfolding cleared
cleared_length area n place h = simp (length-append, length-take, length-drop, length-replicate) (omega arith)

clear_already : (area : List Float) (n m place : ℕ) → part area place (n - 1) ≡ replicate (n - 1) +0 → m ≤ n → cleared area m place ≡ area
unfolding cleared part
clear_already area n m place e h =
    let f : take (m - 1) (drop place area) ≡ replicate (m - 1) +0 =
    sym (take-take (m - 1) (n - 1) (drop place area) (omega arith)) ∙ ap (take (m - 1)) e ∙ take_replicate (m - 1) (n - 1) +0 (omega arith) in
    ap (λ (l : List Float). take place area ++ l)
    (ap₂ ◌++◌ (sym f) (sym (drop-drop (m - 1) place area)) ∙ take-append-drop (m - 1) (drop place area))
    ∙ take-append-drop place area

-- ---- the sum over channels
channel_short : (run : List Float) (n k : ℕ) → length (channel_of run n k) ≤ n
unfolding channel_of part
channel_short run n k = side (has_channel (length run) n k)
  where
    side : (b : Bool) → length (cond b (take n (drop (k * n) run)) []) ≤ n
    side true = simp length-take (omega arith)
    side false = omega arith

pub sum_more : (run ch : List Float) (n k : ℕ) (s v : Float) → s ≡ noise_sum_to run n k → ch ≡ channel_of run n k → v ≡ noise ch → s +ᶠ v ≡ noise_sum_to run n (k + 1)
unfolding noise_sum_to
sum_more run ch n k s v e f g = rw (add-one, e, g, f)

-- ---- with room, and without
pub lent_found : {value r : Float} {n place : ℕ} {before after : List Float} → has_room (length before) n place ≡ true → r ≡ value → after ≡ cleared before n place → Lent value n place before after r
lent_found e p q = record { answer = rw e p; area = rw e q }

pub lent_nothing : {value r : Float} {n place : ℕ} {before : List Float} → has_room (length before) n place ≡ false → r ≡ nan → Lent value n place before before r
lent_nothing e p = record { answer = rw e p; area = rw e refl }

lent_there : {value r : Float} {n place : ℕ} {before after : List Float} → has_room (length before) n place ≡ true → Lent value n place before after r → (r ≡ value) × (after ≡ cleared before n place)
lent_there {value} {r} {n} {place} {before} {after} e l =
    (l.answer ∙ ap (λ (b : Bool). cond b value nan) e, l.area ∙ ap (λ (b : Bool). cond b (cleared before n place) before) e)

-- a channel's variance found in an area that is clear already: the area is as it was
pub channel_lent : (run ch base area₀ area after : List Float) (n k place : ℕ) (v : Float) → has_room (length base) n place ≡ true → area₀ ≡ cleared base n place → area ≡ area₀ → ch ≡ channel_of run n k
    → Lent (noise ch) (length ch) place area after v → (v ≡ noise ch) × (after ≡ area₀)
channel_lent run ch base area₀ area after n k place v h e f g l =
    (there.0, there.1 ∙ ap (λ (s : List Float). cleared s (length ch) place) f ∙ clear_already area₀ n (length ch) place clear short)
  where
    room : place + (n - 1) ≤ length base
    room = has_room_lem (length base) n place h

    short : length ch ≤ n
    short = omega (arith, ap length g, channel_short run n k)

    long : length area ≡ length base
    long = ap length (f ∙ e) ∙ cleared_length base n place room

    clear : part area₀ place (n - 1) ≡ replicate (n - 1) +0
    clear = ap (λ (s : List Float). part s place (n - 1)) e ∙ zeros_there base n place room

    there : (v ≡ noise ch) × (after ≡ cleared area (length ch) place)
    there = lent_there (room_is (length area) (length ch) place (omega (arith, room, short, long))) l
