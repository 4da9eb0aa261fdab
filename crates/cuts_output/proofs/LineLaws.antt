-- Laws of lines and of what has been written. Assumes nothing.
use Prim.Native.Nat.{ℕ, zero, suc, ◌+◌, ◌*◌, ◌/◌, ◌%◌, ◌^◌, ◌≤◌, ◌<◌}
use mathlib.Core.Path.{◌≡◌, refl, sym, ap, ◌∙◌}
use mathlib.Core.Bool.{Bool, true, false}
use mathlib.Core.List.{List, [], ◌∷◌, ◌++◌, append-nil, append_assoc}
use native.Mathlib.Omega.{arith}
use native.Mathlib.Numerals.{add-one}
use native.Mathlib.Nat.{not-suc-le-zero, not-le_of_lt, pow-suc}
use borrow.Author.Tests.{le-leb, lt-leb, lt-ltb, le-ltb, ltb-false}
use lib.Dec.{ltb}
use Rattle.refusals.specs.Stated.{Stated, stated}
use Rattle.refusals.specs.declared.Refusal.{Refusal}
use lib.ListN.{length, get_or, take, drop, set, length-append}
use borrow.Rule.Slice.PartMut.{put_mid}
use lib.Seq.{sets, sets-eq, length-sets, append_snoc, drop-drop, take-suc}
use Rattle.refusals.specs.Said.{Said, answered, refused}
use Rattle.cuts_output.specs.Lines.{space, newline, cuts_word, refused_word, digit, decimal_by, decimal, spaced, lines, text}
use Rattle.cuts_output.specs.Written.{Written, Front, room_of, shown}

-- ---- decimal
-- more places than are needed change nothing
tenth : (n p : ℕ) → n < p * 10 → n / 10 < p
tenth n p h = omega (arith, h)

same_places : (k j n : ℕ) (b : Bool) → (b ≡ false → decimal_by k (n / 10) ≡ decimal_by j (n / 10))
    → ◌≡◌ {A = List ℕ} (elim b [ true ↦ digit n ∷ [] | false ↦ decimal_by k (n / 10) ++ (digit (n % 10) ∷ []) ]) (elim b [ true ↦ digit n ∷ [] | false ↦ decimal_by j (n / 10) ++ (digit (n % 10) ∷ []) ])
same_places k j n true f = refl
same_places k j n false f = ap (λ (x : List ℕ). x ++ (digit (n % 10) ∷ [])) (f refl)

places_enough : (k j n : ℕ) → n < k → n < j → decimal_by k n ≡ decimal_by j n
unfolding decimal_by
places_enough zero j n h l = absurd (not-suc-le-zero h)
places_enough (suc k) zero n h l = absurd (not-suc-le-zero l)
places_enough (suc k) (suc j) n h l =
    same_places k j n (ltb n 10) λ e.
    let g = ltb-false n 10 e in
    places_enough k j (n / 10) (omega (arith, g, h)) (omega (arith, g, l))

decimal_digit : (n : ℕ) → n < 10 → decimal n ≡ digit n ∷ []
unfolding decimal decimal_by
decimal_digit n h = ap (λ (b : Bool). elim b [ true ↦ digit n ∷ [] | false ↦ decimal_by n (n / 10) ++ (digit (n % 10) ∷ []) ]) (lt-ltb n 10 h)

-- the digit that the code writes last
pub decimal_last : (n : ℕ) → n < 10 → decimal n ≡ digit (n % 10) ∷ []
decimal_last n h = let e : n % 10 ≡ n = omega (arith, h) in rw e (decimal_digit n h)

pub decimal_more : (n : ℕ) → 10 ≤ n → decimal n ≡ decimal (n / 10) ++ (digit (n % 10) ∷ [])
unfolding decimal decimal_by
decimal_more n h =
    ap (λ (b : Bool). elim b [ true ↦ digit n ∷ [] | false ↦ decimal_by n (n / 10) ++ (digit (n % 10) ∷ []) ]) (le-ltb n 10 h)
    ∙ ap (λ (x : List ℕ). x ++ (digit (n % 10) ∷ [])) (places_enough n (suc (n / 10)) (n / 10) (omega (arith, h)) (omega arith))

decimal_longer : (n : ℕ) → 10 ≤ n → length (decimal n) ≡ length (decimal (n / 10)) + 1
decimal_longer n h = ap length (decimal_more n h) ∙ length-append (decimal (n / 10)) (digit (n % 10) ∷ [])

-- where a number has room, its digits but the last have it
pub digits_fit : (at n : ℕ) {l : ℕ} → 10 ≤ n → at + length (decimal n) ≤ l → at + length (decimal (n / 10)) ≤ l
digits_fit at n h f = omega (arith, decimal_longer n h, f)

-- a number below 10^(k + 1) has at most k + 1 digits
short_more : (k j n : ℕ) (b : Bool) → (b ≡ false → length (decimal_by j (n / 10)) ≤ k) → length {A = ℕ} (elim b [ true ↦ digit n ∷ [] | false ↦ decimal_by j (n / 10) ++ (digit (n % 10) ∷ []) ]) ≤ suc k
short_more k j n true f = omega arith
short_more k j n false f = rw (length-append (decimal_by j (n / 10)) (digit (n % 10) ∷ [])) (omega (arith, f refl))

short_by : (k j n : ℕ) → n < 10 ^ suc k → length (decimal_by j n) ≤ suc k
unfolding decimal_by
short_by k zero n h = omega arith
short_by zero (suc j) n h = short_more zero j n (ltb n 10) λ e. absurd (not-le_of_lt h (ltb-false n 10 e))
short_by (suc k) (suc j) n h = short_more (suc k) j n (ltb n 10) λ e. short_by k j (n / 10) (tenth n (10 ^ suc k) (rw (pow-suc 10 (suc k)) at h))

-- 20 digits hold every u64, so that 21 bytes hold a number and what goes with it
pub decimal_short : (n : ℕ) → n < 2 ^ 64 → length (decimal n) ≤ 20
unfolding decimal
decimal_short n h = short_by 19 (suc n) n (omega (arith, h))

pub decimal_fits : (at n : ℕ) {m : ℕ} → n < 2 ^ 64 → at + 20 ≤ m → at + length (decimal n) ≤ m
decimal_fits at n h f = omega (arith, decimal_short n h, f)

-- ---- lists of numbers
pub spaced_one : (n : ℕ) → (space ∷ []) ++ decimal n ≡ spaced (n ∷ [])
unfolding spaced
spaced_one n = ap (λ (r : List ℕ). space ∷ r) (sym (append-nil (decimal n)))

pub lines_one : (n : ℕ) → decimal n ++ (newline ∷ []) ≡ lines (n ∷ [])
unfolding lines
lines_one n = refl

pub spaced_append : (xs ys : List ℕ) → spaced (xs ++ ys) ≡ spaced xs ++ spaced ys
unfolding spaced
spaced_append [] ys = refl
spaced_append (x ∷ xs) ys = ap (λ (r : List ℕ). space ∷ decimal x ++ r) (spaced_append xs ys) ∙ ap (λ (r : List ℕ). space ∷ r) (sym (append_assoc (decimal x) (spaced xs) (spaced ys)))

lines_append : (xs ys : List ℕ) → lines (xs ++ ys) ≡ lines xs ++ lines ys
unfolding lines
lines_append [] ys = refl
lines_append (x ∷ xs) ys = ap (λ (r : List ℕ). decimal x ++ newline ∷ r) (lines_append xs ys) ∙ sym (append_assoc (decimal x) (newline ∷ lines xs) (lines ys))

-- the lines of one more of `cuts`
pub lines_more : (cuts : List ℕ) (i : ℕ) → i < length cuts → lines (take (i + 1) cuts) ≡ lines (take i cuts) ++ lines (get_or cuts i 0 ∷ [])
lines_more cuts i h = rw (add-one, take-suc cuts i 0 h) (lines_append (take i cuts) (get_or cuts i 0 ∷ []))

-- ---- what has been written
sets_append : (l : List ℕ) (i : ℕ) (xs ys : List ℕ) → sets l i (xs ++ ys) ≡ sets (sets l i xs) (i + length xs) ys
sets_append l i [] ys = let e : i + 0 ≡ i = omega arith in rw e refl
sets_append l i (x ∷ xs) ys = sets_append (set l i x) (suc i) xs ys ∙ (let e : suc i + length xs ≡ i + suc (length xs) = omega arith in rw e refl)

pub written_none : (at : ℕ) (out : List ℕ) → Written [] at out out at
written_none at out = record { place = omega arith; area = refl }

-- one after the other
pub written_then : {xs ys : List ℕ} {at next last : ℕ} {a b c : List ℕ} → Written xs at a b next → Written ys next b c last → Written (xs ++ ys) at a c last
written_then {xs} {ys} {at} {next} {last} {a} {b} {c} p q =
    record {
      place = rw (length-append xs ys) (omega (arith, p.place, q.place));
      area = q.area ∙ rw (p.area, p.place) (sym (sets_append a at xs ys));
    }

-- the same bytes by another name
pub written_as : {xs ys : List ℕ} {at next : ℕ} {a b : List ℕ} → xs ≡ ys → Written xs at a b next → Written ys at a b next
written_as {xs} {ys} {at} {next} {a} {b} e p = record { place = rw (← e) p.place; area = rw (← e) p.area }

pub written_long : {xs : List ℕ} {at next : ℕ} {a b : List ℕ} → Written xs at a b next → length b ≡ length a
written_long {xs} {at} {next} {a} {b} p = rw p.area (length-sets a at xs)

-- a word copied over a part
pub written_part : (word out : List ℕ) (at k : ℕ) → k ≡ length word → at + length word ≤ length out → put_mid at k out word ≡ sets out at word
written_part word out at k e h = rw (e, drop-drop (length word) at out) (sym (sets-eq word out at h ∙ append_assoc (take at out) word (drop (at + length word) out)))

-- ---- the two forms of an answer, piece by piece
pub cuts_text : (cuts : List ℕ) {count : ℕ} → length cuts ≡ count → cuts_word ++ spaced (count ∷ []) ++ (newline ∷ []) ++ lines cuts ≡ text (answered cuts)
unfolding text
cuts_text cuts {count} e = rw e (append_snoc (cuts_word ++ spaced (count ∷ [])) newline (lines cuts))

pub refused_text : (r : Refusal) → refused_word ++ spaced ((stated r).number ∷ []) ++ spaced (stated r).values ++ (newline ∷ []) ≡ text (refused (stated r))
unfolding text
refused_text r = ap (λ (x : List ℕ). x ++ (newline ∷ [])) (append_assoc refused_word (spaced ((stated r).number ∷ [])) (spaced (stated r).values) ∙ ap (λ (x : List ℕ). refused_word ++ x) (sym (spaced_append ((stated r).number ∷ []) (stated r).values)))

-- ---- with room it is the text that is written, and without room nothing
shown_all : (said : Said) (size : ℕ) → room_of said ≤ size → text said ≡ shown said size
unfolding shown
shown_all said size h = rw (le-leb (room_of said) size h) refl

shown_none : (said : Said) (size : ℕ) → size < room_of said → [] ≡ shown said size
unfolding shown
shown_none said size h = rw (lt-leb (room_of said) size h) refl

kept_front : (said : Said) (out : List ℕ) → length out < room_of said → Front (shown said (length out)) out out 0
kept_front said out h = record { written = written_as (shown_none said (length out) h) (written_none 0 out); fits = omega arith }

pub cuts_shown : (cuts : List ℕ) (size : ℕ) → 26 + 21 * length cuts ≤ size → text (answered cuts) ≡ shown (answered cuts) size
unfolding room_of
cuts_shown cuts size h = shown_all (answered cuts) size h

pub cuts_kept : (cuts out : List ℕ) → length out < 26 + 21 * length cuts → Front (shown (answered cuts) (length out)) out out 0
unfolding room_of
cuts_kept cuts out h = kept_front (answered cuts) out h

pub refusal_shown : (s : Stated) (size : ℕ) → 71 ≤ size → text (refused s) ≡ shown (refused s) size
unfolding room_of
refusal_shown s size h = shown_all (refused s) size h

pub refusal_kept : (s : Stated) (out : List ℕ) → length out < 71 → Front (shown (refused s) (length out)) out out 0
unfolding room_of
refusal_kept s out h = kept_front (refused s) out h

-- one outcome, whatever meets the contract
pub printed_once : {bytes out a b : List ℕ} {n m : ℕ} → Front bytes out a n → Front bytes out b m → (a ≡ b) × (n ≡ m)
printed_once p q = (p.written.area ∙ sym q.written.area, p.written.place ∙ sym q.written.place)
