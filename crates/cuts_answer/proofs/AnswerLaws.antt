-- Laws of the answer: what the search says is what is written. Assumes nothing.
use Prim.Native.Nat.{ℕ, ◌+◌, ◌-◌, ◌*◌, ◌≤◌}
use mathlib.Core.Path.{◌≡◌, refl, sym, ap, ap₂, subst, ◌∙◌}
use mathlib.Core.Bool.{Bool, true, false}
use mathlib.Core.List.{List, [], ◌∷◌, ◌++◌}
use Rattle.std.specs.Prelude.{Some, None, Result, Ok, Err}
use Rattle.std.proofs.Math.Option as maybe
use native.Mathlib.Omega.{arith}
use borrow.Author.Tests.{le-ltb, le-leb}
use lib.Dec.{ltb}
use lib.ListN.{length, take, drop, replicate, length-append, length-replicate, replicate-append-replicate}
use lib.Seq.{take_at, drop_at, sets-eq, length-take-le}
use lib.Ieee.{Float}
use Rattle.refusals.specs.Tried.{tried, passed}
use Rattle.refusals.proofs.TriedLaws.{tried_passed}
use Rattle.refusals.specs.Said.{Said, refusing, answered, refused}
use Rattle.refusals.specs.Stated.{stated}
use Rattle.refusals.specs.declared.Refusal.{Refusal}
use Rattle.readings.specs.Shape.{shape_tests, first_length, channels}
use Rattle.costs.specs.declared.Penalty.{Penalty}
use Rattle.search_answer.specs.Tests.{bad_penalty, short_room, room_tests, search_tests}
use Rattle.search_answer.proofs.AdmissionLaws.{shapely}
use Rattle.readings.specs.Shape.{shaped_as}
use Rattle.search_rules.specs.Limits.{least_minimum, slot_floats}
use Rattle.search_rules.specs.Room.{cuts_for, floats_for, indices_for, room_fits}
use Rattle.search_answer.specs.Outcome.{Areas, found_outcome, outcome_by}
use Rattle.pelt.specs.declared.Pelt.{Pelt}
use Rattle.pelt.specs.Detected.{with_min_segment_len, detected}
use Rattle.cuts_answer.specs.Answer.{program_slots, output_bytes, strict_tests, strict_cuts, cuts_said, request_said, output, printed}
use Rattle.cuts_input.specs.Form.{request_of}
use Rattle.cuts_input.specs.declared.Request.{Request}
use Rattle.cuts_output.specs.Lines.{text}
use Rattle.cuts_output.specs.Written.{Front, shown}
use Rattle.cuts_output.proofs.LineLaws.{cuts_shown, refusal_shown}
use Rattle.cuts_input.specs.Parsed.{ParsedFrom}
use Rattle.cuts_input.specs.declared.Parsed.{Parsed}
use Rattle.cuts_input.proofs.ParsedLaws.{request_as, parsed_asks, RequestFits, parsed_fits}
use Rattle.cuts_answer.specs.Inner.Held.{asked, Says}

-- ---- the cuts in the front of the area are those that are found, and a refusal is the same
outcome_said : (ts : List (Bool × Refusal)) (found : maybe.Option (List ℕ)) (before : Areas) → let o = outcome_by ts found before in Says o.0 o.1.cuts (tried refusing ts (cuts_said found))
unfolding outcome_by found_outcome tried cuts_said
outcome_said [] maybe.none before = record { has_cuts = tt; says = refl }
outcome_said [] (maybe.some cuts) before =
    let rest = drop (length cuts) before.cuts in
    record { has_cuts = rw (length-append cuts rest) (omega arith); says = ap answered (take_at cuts rest (length cuts) refl) }
outcome_said ((true, r) ∷ ts) found before = record { has_cuts = tt; says = refl }
outcome_said ((false, r) ∷ ts) found before = outcome_said ts found before

left_said : (ts : List (Bool × Refusal)) (found : maybe.Option (List ℕ)) (before after : Areas) (r : Result ℕ Refusal) → ◌≡◌ {A = Result ℕ Refusal × Areas} (r, after) (outcome_by ts found before) → Says r after.cuts (tried refusing ts (cuts_said found))
left_said ts found before after r e = subst (λ (o : Result ℕ Refusal × Areas). Says o.0 o.1.cuts (tried refusing ts (cuts_said found))) (sym e) (outcome_said ts found before)

-- ---- the room is enough
pub cuts_room : (count : ℕ) (cuts : List ℕ) {size : ℕ} → count ≤ length cuts → length cuts ≤ 515 → output_bytes ≤ size → 26 + 21 * length (take count cuts) ≤ size
cuts_room count cuts h l m = omega (arith, length-take-le count cuts h, h, l, m)

roomy : (n k cuts floats indices : ℕ) → cuts_for n ≤ cuts → floats_for n k ≤ floats → indices_for n ≤ indices → short_room n k cuts floats indices ≡ false
unfolding short_room room_fits
roomy n k cuts floats indices a b c = rw (le-ltb cuts (cuts_for n) a, le-leb (floats_for n k) floats b, le-leb (indices_for n) indices c) refl

-- tests that come after others matter only once those pass
tried_after : (ts us vs : List (Bool × Refusal)) (s : Said) → (passed ts ≡ true → tried refusing us s ≡ tried refusing vs s) → tried refusing (ts ++ us) s ≡ tried refusing (ts ++ vs) s
unfolding tried passed
tried_after [] us vs s f = f refl
tried_after ((true, r) ∷ ts) us vs s f = refl
tried_after ((false, r) ∷ ts) us vs s f = tried_after ts us vs s f

same_room : (strict : Bool) (run : List Float) (n k a b c d e f : ℕ) (s : Said) → short_room n k a b c ≡ false → short_room n k d e f ≡ false → tried refusing (room_tests strict run n k a b c) s ≡ tried refusing (room_tests strict run n k d e f) s
unfolding room_tests tried
same_room strict run n k a b c d e f s p q = rw (p, q) refl

first_few : (lengths : List ℕ) → first_length lengths ≤ length lengths * first_length lengths
first_few [] = omega arith
first_few (l ∷ ls) = omega arith

room_product : (n k p : ℕ) → k * n ≡ p → p ≤ 1030 → k ≤ 8 → n ≤ 1030 → floats_for n k ≤ 4138
room_product n k p e a b c = omega (arith, e, a, b, c)

same_tests : (penalty : Penalty) (m : ℕ) (run : List Float) (lengths : List ℕ) (d e f : ℕ) (s : Said) → length run ≤ 1030
    → short_room (first_length lengths) (length lengths) d e f ≡ false
    → tried refusing (search_tests true penalty m run lengths 515 4138 3093) s ≡ tried refusing (search_tests true penalty m run lengths d e f) s
unfolding search_tests shaped_as
same_tests penalty m run lengths d e f s h q =
    tried_after ((bad_penalty penalty, _) ∷ (ltb m least_minimum, _) ∷ []) _ _ s λ _. tried_after (shape_tests lengths (length run)) _ _ s λ p. same_room true run (first_length lengths) (length lengths) 515 4138 3093 d e f s (enough p) q
  where
    enough : passed (shape_tests lengths (length run)) ≡ true → short_room (first_length lengths) (length lengths) 515 4138 3093 ≡ false
    enough p =
        let g = shapely run lengths (channels (length lengths) (first_length lengths)) (tried_passed Err (shape_tests lengths (length run)) _ p) in
        let n = first_length lengths in
        let k = length lengths in
        let few : n ≤ 1030 = omega (arith, first_few lengths, g.fill, h) in
        roomy n k 515 4138 3093 (omega (arith, few)) (room_product n k (length run) g.fill h g.few few) (omega (arith, few))

pub searched_said : (p : Pelt) (q : Request) (run : List Float) (lengths : List ℕ) (before after : Areas) (r : Result ℕ Refusal)
    → p ≡ with_min_segment_len q.cost q.penalty q.min_segment_len → length run ≤ 1030 → length before.cuts ≡ 515 → length before.floats ≡ 4138 → length before.indices ≡ 3093 → length before.pool ≡ slot_floats * program_slots
    → ◌≡◌ {A = Result ℕ Refusal × Areas} (r, after) (detected true p run lengths before) → Says r after.cuts (request_said (Some (asked q run lengths)))
unfolding request_said strict_tests strict_cuts
searched_said p q run lengths before after r e h a b c d l =
    let n = first_length lengths in
    let k = length lengths in
    let s = left_said _ _ before after r (rw (a, b, c, d) at (l ∙ ap (λ (x : Pelt). detected true x run lengths before) e)) in
    record {
      has_cuts = s.has_cuts;
      says = s.says ∙ same_tests q.penalty q.min_segment_len run lengths (cuts_for n) (floats_for n k) (indices_for n) _ h (roomy n k (cuts_for n) (floats_for n k) (indices_for n) (omega arith) (omega arith) (omega arith));
    }

-- ---- the request
-- no request is refusal 10
pub form_says : {s : List ℕ} {p : Parsed} (cuts : List ℕ) → ParsedFrom s p → p.request ≡ None → Says (Err Refusal.Form) cuts (request_said (request_of s))
unfolding request_said
form_says {s} {p} cuts h e = record { has_cuts = tt; says = ap request_said (ap (request_as p.run p.lengths) (sym e) ∙ parsed_asks h) }

module _ {s : List ℕ} {p : Parsed} {q : Request} (h : ParsedFrom s p) (e : p.request ≡ Some q) where
  pub asked_fits : (q.readings ≤ length p.run) × (q.channels ≤ length p.lengths)
  asked_fits = subst (RequestFits p.run p.lengths) e (parsed_fits h)

  pub asked_of : request_of s ≡ Some (asked q (take q.readings p.run) (take q.channels p.lengths))
  asked_of = sym (parsed_asks h) ∙ ap (request_as p.run p.lengths) e

-- ---- the whole output
pub front_as : {xs ys : List ℕ} {out out' : List ℕ} {next : ℕ} → xs ≡ ys → Front xs out out' next → Front ys out out' next
front_as {xs} {ys} {out} {out'} {next} e p = subst (λ (x : List ℕ). Front x out out' next) e p

pub cuts_printed : (input : List ℕ) (count : ℕ) (cuts : List ℕ) {out out' : List ℕ} {next : ℕ} → Says (Ok count) cuts (request_said (request_of input)) → length cuts ≡ 515 → output_bytes ≤ length out → Front (shown (answered (take count cuts)) (length out)) out out' next → Front (output input) out out' next
unfolding output
cuts_printed input count cuts h l m f = front_as (sym (cuts_shown _ _ (cuts_room count cuts h.has_cuts (omega (arith, l)) m)) ∙ ap text h.says) f

pub refusal_printed : (input : List ℕ) (r : Refusal) (cuts : List ℕ) {out out' : List ℕ} {next : ℕ} → Says (Err r) cuts (request_said (request_of input)) → output_bytes ≤ length out → Front (shown (refused (stated r)) (length out)) out out' next → Front (output input) out out' next
unfolding output
refusal_printed input r cuts h m f = front_as (sym (refusal_shown _ _ (omega (arith, m))) ∙ ap text h.says) f

zeros_behind : (n m : ℕ) → n ≤ m → ◌≡◌ {A = List ℕ} (drop n (replicate m 0)) (replicate (m - n) 0)
zeros_behind n m h =
    let e : m ≡ n + (m - n) = omega (arith, h) in
    ap (λ (k : ℕ). drop {A = ℕ} n (replicate k 0)) e ∙ ap (drop {A = ℕ} n) (sym (replicate-append-replicate {A = ℕ} n (m - n) 0)) ∙ drop_at {A = ℕ} (replicate n 0) (replicate (m - n) 0) n (length-replicate {A = ℕ} n 0)

pub answered_by : (input : List ℕ) {bytes : List ℕ} {n : ℕ} → Front (output input) (replicate output_bytes 0) bytes n → record { bytes = bytes; length = n } ≡ printed input
answered_by input {bytes} {n} p =
    let z : 0 + length (output input) ≡ length (output input) = omega arith in
    let e : n ≡ length (output input) = p.written.place ∙ z in
    let l : n ≤ output_bytes = rw (length-replicate {A = ℕ} output_bytes 0) at p.fits in
    ap₂ (λ (bs : List ℕ) (k : ℕ). record { bytes = bs; length = k })
    (p.written.area ∙ sets-eq (output input) (replicate output_bytes 0) 0 (omega (arith, e, l, length-replicate {A = ℕ} output_bytes 0)) ∙ ap (λ (k : ℕ). output input ++ drop {A = ℕ} k (replicate output_bytes 0)) z
    ∙ ap (λ (r : List ℕ). output input ++ r) (zeros_behind (length (output input)) output_bytes (omega (arith, e, l))))
    e
