-- Laws of a step: the best of the living candidates, what the areas hold after it, and how they begin and end. Assumes nothing.
use Rattle.std.proofs.Common.{◌≡◌, ℕ, suc, ◌+◌, ◌-◌, ◌≤◌, ◌<◌, true, false, List, length, get_or, take, set, [], length-set, length-take, refl, sym, ap, ◌∙◌, arith, le-leb}
use Rattle.std.proofs.lemmas.Bool.{lt-leb}
use mathlib.Core.Bool.{false≢true}
use lib.Seq.{ext_get_or, get_or-take}
use lib.Ieee.{Float, nan}
use Rattle.floats.specs.Numbers.{◌+ᶠ◌}
use Rattle.areas.proofs.PartLaws.{tab_at, tab_same, tab_length}
use Rattle.search_rules.specs.declared.Best.{Best}
use Rattle.search_rules.specs.Minimum.{better_of, scan_to}
use Rattle.search_rules.specs.Predecessors.{Placed, start, later}
use Rattle.search_rules.proofs.All.{all_at}
use Rattle.search_rules.proofs.MinimumLaws.{scan_takes}
use Rattle.functional.specs.declared.Plan.{Plan}
use Rattle.search_rules.specs.Functional.{Task, Living, State, price, places, best_at, living_at, join_of, living_after, step_of, state_after, functional}
use Rattle.functional.specs.Inner.Held.{task, Slots, Entries, tau_at, lived_at, lived, Sane, AllBelow, Joins, taus, Holds, Stepped, Searched}
use Rattle.functional.proofs.BirthLaws.{lived_long}
use Rattle.search_rules.proofs.FunctionalLaws.{places_length, places_at, placed_after}
use Rattle.search_rules.proofs.PeakLaws.{peak_within, slots_too_few, slots_enough}

-- ---- the places of the living candidates
taus_at : (ix : Entries) (count j : ℕ) → j < count → get_or (taus ix count) j 0 ≡ tau_at ix j
unfolding taus
taus_at ix count j h = tab_at (tau_at ix) count j 0 h

lived_tau : (channels : ℕ) (slots : Slots) (ix : Entries) (count j : ℕ) → j < count → (living_at (lived channels slots ix count) j).tau ≡ tau_at ix j
unfolding lived lived_at
lived_tau channels slots ix count j h = ap (λ (c : Living). c.tau) (tab_at (lived_at channels slots ix) count j _ h)

taus_length : (ix : Entries) (count : ℕ) → length (taus ix count) ≡ count
unfolding taus
taus_length ix count = tab_length (tau_at ix) count

taus_are : (channels : ℕ) (slots : Slots) (ix : Entries) (count : ℕ) → taus ix count ≡ places (lived channels slots ix count)
taus_are channels slots ix count =
    let l = lived channels slots ix count in
    ext_get_or 0 (taus ix count) (places l) (taus_length ix count ∙ sym (places_length l ∙ lived_long channels slots ix count))
    (λ j h. let g : j < count = rw (taus_length ix count) at h in taus_at ix count j g ∙ sym (places_at l j ∙ lived_tau channels slots ix count j g))

taus_front : (ix : Entries) (count : ℕ) → taus (take count ix) count ≡ taus ix count
unfolding taus
taus_front ix count = tab_same _ _ count (λ j h. rw (get_or-take count ix j [] h) refl)

below_front : {x : ℕ} {ix : Entries} {count : ℕ} → count ≤ length ix → AllBelow x ix count → AllBelow x (take count ix) (length (take count ix))
below_front {ix = ix} {count = count} room b =
    let front : length (take count ix) ≡ count = length-take count ix ∙ omega arith in
    record { below = λ j h. let l : j < count = rw front at h in rw (get_or-take count ix j [] l) (b.below j l) }

-- one candidate more in the scan
pub scanned_more : (total : ℕ → Float) (ix : Entries) (count j : ℕ) (v : Float) (best next : Best) → best ≡ scan_to (λ x. true) total (taus ix count) j → j < count → v ≡ total (tau_at ix j)
    → next ≡ better_of best v (tau_at ix j) → next ≡ scan_to (λ x. true) total (taus ix count) (j + 1)
scanned_more total ix count j v best next e h g p =
    let same : get_or (taus ix count) j 0 ≡ tau_at ix j = taus_at ix count j h in
    p ∙ (rw (e, g) (sym (scan_takes (λ x. true) total (taus ix count) j refl ∙ ap (λ (x : ℕ). better_of (scan_to (λ y. true) total (taus ix count) j) (total x) x) same)))

-- ---- every living candidate may be the predecessor of t
pub lives_below : {q : Plan} {xs : List Float} {last : List ℕ} {ix : Entries} {slots : Slots} {count t : ℕ} (x : ℕ) → Holds q xs last ix slots count t → 0 < x → t < x + q.m → AllBelow x ix count
lives_below {q} {xs} {last} {ix} {slots} {count} {t} x h l g =
    record { below = λ j i. rw (← lived_tau q.channels slots ix count j i) (at j i) }
  where
    small : {v : ℕ} → Placed q.m t v → v < x
    small (start e) = omega arith
    small (later a b) = omega arith

    at : (j : ℕ) → j < count → (living_at (lived q.channels slots ix count) j).tau < x
    at j i =
        let s = (state_after (task q) (t - q.m)).living in
        let few : j < length (places s) = rw (places_length s, ← h.living, lived_long q.channels slots ix count) i in
        let e : q.m + (t - q.m) ≡ t = omega (arith, h.from) in
        rw (h.living, ← places_at s j) (small (rw e at (all_at j (placed_after (task q) (t - q.m)) few)))

pub front_below : {q : Plan} {xs : List Float} {last : List ℕ} {ix : Entries} {slots : Slots} {count t : ℕ} → Holds q xs last ix slots count t → t ≤ q.n → AllBelow t (take count ix) (length (take count ix))
front_below {t = t} h l =
    let s = h.sound in
    below_front (omega (arith, h.fewer, h.room, s.some)) (lives_below t h (omega (arith, s.some, h.from)) (omega (arith, s.some)))

-- ---- the state after a step, by its parts
state_next : (k : Task) (t : ℕ) → k.m ≤ t → state_after k (t + 1 - k.m) ≡ step_of k t (state_after k (t - k.m))
unfolding state_after
state_next k t h =
    let e : t + 1 - k.m ≡ suc (t - k.m) = omega arith in
    let d : k.m + (t - k.m) ≡ t = omega arith in
    rw e (rw d refl)

-- the best at t, by the places as the entries have them
pub best_is : {q : Plan} {xs : List Float} {last : List ℕ} {ix : Entries} {slots : Slots} {count t : ℕ} (best : Best) → Holds q xs last ix slots count t → t ≤ q.n
    → best ≡ scan_to (λ tau. true) (λ tau. get_or xs tau nan +ᶠ price (task q) tau t +ᶠ q.penalty) (taus (take count ix) (length (take count ix))) (length (take count ix)) → best ≡ best_at (task q) t (state_after (task q) (t - q.m))
unfolding best_at
best_is {q} {xs} {last} {ix} {slots} {count} {t} best h m e =
    let s = state_after (task q) (t - q.m) in
    let sound = h.sound in
    let front : length (take count ix) ≡ count = length-take count ix ∙ omega (arith, h.fewer, h.room, sound.some) in
    let l : taus (take count ix) count ≡ places s.living = taus_front ix count ∙ taus_are q.channels slots ix count ∙ ap places h.living in
    let n : count ≡ length s.living = sym (lived_long q.channels slots ix count) ∙ ap length h.living in
    e ∙ (rw (front, l, h.f, n) refl)

-- ---- what a step leaves
module _ (q : Plan) (xs : List Float) (last : List ℕ) (ix : Entries) (slots : Slots) (count t : ℕ) (h : Holds q xs last ix slots count t) (ripe : t ≤ q.n) (best : Best)
    (chosen : best ≡ best_at (task q) t (state_after (task q) (t - q.m))) where
  abbrev state : State
  state = state_after (task q) (t - q.m)

  abbrev noted : List Float
  noted = set xs t best.cost

  abbrev marked : List ℕ
  marked = set last t best.tau

  f_noted : noted ≡ set state.f t (best_at (task q) t state).cost
  f_noted = rw (h.f, chosen) refl

  last_marked : marked ≡ set state.last t (best_at (task q) t state).tau
  last_marked = rw (h.last, chosen) refl

  abbrev following : List Living
  following = living_after (task q) noted t (lived q.channels slots ix count)

  following_is : following ≡ (state_after (task q) (t + 1 - q.m)).living
  unfolding step_of
  following_is = (rw (f_noted, h.living) refl) ∙ ap (λ (s : State). s.living) (sym (state_next (task q) t h.from))

  f_is : noted ≡ (state_after (task q) (t + 1 - q.m)).f
  unfolding step_of
  f_is = f_noted ∙ ap (λ (s : State). s.f) (sym (state_next (task q) t h.from))

  last_is : marked ≡ (state_after (task q) (t + 1 - q.m)).last
  unfolding step_of
  last_is = last_marked ∙ ap (λ (s : State). s.last) (sym (state_next (task q) t h.from))

  -- the areas, once the candidates are those that follow
  stepped : (iy : Entries) (y : Slots) (r : ℕ) → length iy ≡ length ix → length y ≡ length slots → r ≡ length following
      → (r ≤ length slots → lived q.channels y iy r ≡ following) → (r ≤ length slots → Sane q.channels y iy r) → r ≤ count + 1 → Stepped q noted marked iy y t r
  stepped iy y r wide long counted living sane few =
      let count_is : r ≡ length (state_after (task q) (t + 1 - q.m)).living = counted ∙ ap length following_is in
      let e : t + 1 - q.m ≡ t - q.m + 1 = omega (arith, h.from) in
      record {
        counted = count_is;
        holds = λ m. let k : r ≤ length slots = omega arith in record {
          sound = h.sound;
          long_f = length-set xs t best.cost ∙ h.long_f;
          long_last = length-set last t best.tau ∙ h.long_last;
          room = rw wide h.room;
          sane = sane k;
          from = omega (arith, h.from);
          few = m;
          fewer = omega (arith, h.fewer);
          f = f_is;
          last = last_is;
          living = living k ∙ following_is;
          peak = rw (e, long) (peak_within (task q) (t - q.m) (length slots) h.peak (rw e at (rw count_is at k)));
        };
      }

  -- where b is too young to join
  pub stepped_young : t + 1 - q.m < q.m → Stepped q noted marked ix slots t count
  unfolding living_after
  stepped_young l =
      let same : following ≡ lived q.channels slots ix count = rw (lt-leb q.m (t + 1 - q.m) l) refl in
      stepped ix slots count refl refl (sym (ap length same ∙ lived_long q.channels slots ix count)) (λ m. sym same) (λ m. h.sane) (omega arith)

  -- where b joins
  pub stepped_birth : (iy : Entries) (y : Slots) (r : ℕ) → q.m ≤ t + 1 - q.m → length iy ≡ length ix → length y ≡ length slots → Joins q noted slots y ix iy count (t + 1 - q.m) r → Stepped q noted marked iy y t r
  unfolding living_after
  stepped_birth iy y r l wide long j =
      let same : following ≡ join_of (task q) noted (t + 1 - q.m) (lived q.channels slots ix count) = rw (le-leb q.m (t + 1 - q.m) l) refl in
      stepped iy y r wide long (j.counted ∙ ap length (sym same)) (λ m. j.living m ∙ sym same) j.sane j.few

-- ---- all steps
pub searched_stopped : {q : Plan} {xs : List Float} {last : List ℕ} {ix : Entries} {y : Slots} {size t r : ℕ} → Stepped q xs last ix y t r → t ≤ q.n → size ≡ length y → length y < r → Searched q last size false
searched_stopped {q} {size = size} {t = t} s h e l =
    record { answer = sym (slots_too_few (task q) (t + 1 - q.m) size (omega arith) (rw (e, ← s.counted) l)); last = λ f. absurd (false≢true f) }

pub searched_through : {q : Plan} {xs : List Float} {last : List ℕ} {ix : Entries} {y : Slots} {size count t : ℕ} → Holds q xs last ix y count t → t ≡ q.n + 1 → size ≡ length y → Searched q last size true
unfolding functional
searched_through {q} {size = size} {t = t} h e g =
    record { answer = sym (slots_enough (task q) size (rw (← e, g) h.peak)); last = λ _. h.last ∙ (rw e refl) }
