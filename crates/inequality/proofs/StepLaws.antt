-- Laws of a step over the lent areas: it makes the next state of the recurrence; and what the calls of a step ask. Assumes nothing.
use Prim.Native.Nat.{ℕ, suc, ◌+◌, ◌-◌, ◌*◌, ◌≤◌, ◌<◌}
use mathlib.Core.Path.{◌≡◌, refl, sym, ap, ◌∙◌, subst}
use mathlib.Core.List.{List, [], ◌∷◌, ◌++◌}
use mathlib.Core.Logic.{◌≢◌}
use native.Mathlib.Omega.{arith}
use lib.ListN.{length, get_or, set, take, length-set, length-append}
use Rattle.std.proofs.lemmas.List.{set-append_left, set-append_right, drop_at}
use lib.Seq.{get_or-set_other, get_or-set_same}
use lib.Ieee.{Float, nan}
use Rattle.floats.specs.Numbers.{◌+ᶠ◌}
use Rattle.areas.specs.Parts.{part}
use Rattle.areas.proofs.PartLaws.{part_at, part_length, part_front, part_above, push, store}
use Rattle.sums.proofs.ChannelLaws.{mul_room}
use Rattle.search_rules.specs.declared.Best.{Best}
use Rattle.search_rules.specs.Minimum.{kept_to}
use Rattle.search_rules.specs.Inequality.{State, part_of, best_at, stays_at, step_of, state_after}
use Rattle.inequality.specs.declared.Plan.{Plan}
use Rattle.inequality.specs.Inner.Held.{Room, planned, run_of, AllBelow, Rising, Shown, Holds}
use Rattle.inequality.specs.Inner.Weights.{Parted, Written, weight_by, lowest_by}
use Rattle.inequality.specs.Inner.Staying.{stay_count, kept_by, Retained, RetainedRuns, Joined}
use Rattle.inequality.proofs.WrittenLaws.{at_front, at_back, written_all}
use Rattle.inequality.proofs.KeepingLaws.{run_room, retained_behind, joined_behind}
use Rattle.inequality.proofs.LowestLaws.{lowest_slices}
use Rattle.inequality.proofs.CandidateLaws.{kept_below, rising_next, below_next, next_at}
use Rattle.inequality.proofs.DecisionLaws.{part_of_lem, best_of, kept_is, kept_at}

-- ---- what a step has done: the weights, the best, those that stay, and `t` behind them
pub record Done (q : Plan) (xs x₁ x₂ x₃ : List Float) (ix ix₂ : List ℕ) (count t old kept : ℕ) (b : Best) : Type 0 where
  pub early : t ≤ q.n
  pub parted : Parted q.m t (part ix q.c count) old
  pub weighed : Written xs x₁ q.p (weight_by q xs (part ix q.c old) old t) count
  pub best : b ≡ lowest_by q.penalty (part x₁ q.p old) (part ix q.c old) old
  pub runs : RetainedRuns (b.cost +ᶠ q.penalty) q x₁ x₂ count (2 * q.channels + 1)
  pub indices : Retained (b.cost +ᶠ q.penalty) x₁ q.p 0 (set ix t b.tau) ix₂ q.c count count kept
  pub joined : Joined q x₂ x₃ kept t (2 * q.channels)

module _ (run : List Float) (q : Plan) (xs x₁ x₂ x₃ : List Float) (ix ix₂ : List ℕ) (count t old kept : ℕ) (b : Best) (s : State) (h : Shown run q xs ix count t s) (d : Done q xs x₁ x₂ x₃ ix ix₂ count t old kept b) where
  abbrev w : ℕ
  w = q.n + 1

  -- the candidates that stay
  abbrev news : List ℕ
  news = kept_to (stays_at (planned run q) q.penalty q.m t s.f b.cost) s.candidates (length s.candidates)

  many : length s.candidates ≡ count
  many = let room = h.room in let few = h.few in ap length (sym h.candidates) ∙ part_length ix q.c count (omega (arith, d.early))

  few : count ≤ t
  few = omega (arith, h.few, h.room.some)

  candidate : (i : ℕ) → i < length s.candidates → get_or ix (q.c + i) 0 ≡ get_or s.candidates i 0
  candidate i l = part_at ix q.c count i 0 (omega (arith, many)) ∙ ap (λ (c : List ℕ). get_or c i 0) h.candidates

  weight : (i : ℕ) → i < length s.candidates → get_or x₁ (q.p + i) nan ≡ part_of (planned run q) q.m s.f t (get_or s.candidates i 0)
  weight i l = part_of_lem run q xs x₁ ix s.candidates s.f t old i h.runs d.early (subst (λ (c : List ℕ). Parted q.m t c old) h.candidates d.parted) (written_all (sym many) d.weighed) candidate l

  best : b ≡ best_at (planned run q) q.penalty q.m t s
  best = d.best ∙ best_of run q x₁ ix s t old (subst (λ (c : List ℕ). Parted q.m t c old) h.candidates d.parted) weight candidate

  -- the step by the best that was found
  stepped_by : step_of (planned run q) q.penalty q.m t s ≡ record { f = set s.f t b.cost; last = set s.last t b.tau; candidates = news ++ (t ∷ []) }
  unfolding step_of
  stepped_by =
      ap (λ (a : Best). record { f = set s.f t a.cost; last = set s.last t a.tau; candidates = kept_to (stays_at (planned run q) q.penalty q.m t s.f a.cost) s.candidates (length s.candidates) ++ (t ∷ []) }) (sym best)

  moved : (i : ℕ) → i < length s.candidates → get_or (set ix t b.tau) (q.c + i) 0 ≡ get_or s.candidates i 0
  moved i l = let room = h.room in get_or-set_other ix t (q.c + i) b.tau 0 (omega (arith, d.early)) ∙ candidate i l

  kept_news : kept_by (b.cost +ᶠ q.penalty) x₁ q.p 0 (set ix t b.tau) q.c count ≡ news
  unfolding stays_at
  kept_news =
      kept_is (b.cost +ᶠ q.penalty) x₁ q.p (part_of (planned run q) q.m s.f t) (set ix t b.tau) q.c s.candidates count (λ i l. weight i (omega (arith, many))) (λ i l. moved i (omega (arith, many)))
      ∙ ap (kept_to (stays_at (planned run q) q.penalty q.m t s.f b.cost) s.candidates) (sym many)

  fewer : kept ≤ count
  fewer = d.indices.few

  long_indices : length ix₂ ≡ length ix
  long_indices = d.indices.frame.long ∙ length-set ix t b.tau

  front_news : part ix₂ q.c kept ≡ news
  front_news = d.indices.front ∙ kept_news

  many_news : length news ≡ kept
  many_news = let room = h.room in ap length (sym front_news) ∙ part_length ix₂ q.c kept (omega (arith, long_indices, fewer, few, d.early))

  -- what the part `r` held of the candidates it holds of those that stay
  kept_run : (r : ℕ) (g : ℕ → Float) → r < 2 * q.channels + 1 → ((i : ℕ) → i < length s.candidates → get_or x₁ (r * w + i) nan ≡ g (get_or s.candidates i 0))
      → (j : ℕ) → j < kept → get_or x₂ (r * w + j) nan ≡ g (get_or news j 0)
  kept_run r g l e j k =
      part_at x₂ (r * w) (stay_count (b.cost +ᶠ q.penalty) x₁ q.p count) j nan (omega (arith, d.indices.many))
      ∙ ap (λ (c : List Float). get_or c j nan) (d.runs.front r l)
      ∙ kept_at (b.cost +ᶠ q.penalty) x₁ q.p g x₁ (r * w) (set ix t b.tau) q.c count j (λ i m. e i (omega (arith, many)) ∙ ap g (sym (moved i (omega (arith, many))))) (rw kept_news (omega (arith, many_news)))
      ∙ ap (λ (c : List ℕ). g (get_or c j 0)) kept_news

  -- an index of the parts where nothing moved
  unmoved : (r i : ℕ) → r < 2 * q.channels → count ≤ i → i ≤ q.n → i ≢ kept → get_or x₃ (r * w + i) nan ≡ get_or xs (r * w + i) nan
  unmoved r i l m n o =
      let room = h.room in
      d.joined.rest r i l n o
      ∙ d.runs.rest r i (omega arith) m n
      ∙ at_front (r * w + i) nan d.weighed.frame (omega (arith, run_room q _ _ r room (omega arith)))

  last_place : (r i : ℕ) → r < 2 * q.channels → i ≤ q.n → get_or (set x₃ (q.f + kept) b.cost) (r * w + i) nan ≡ get_or x₃ (r * w + i) nan
  last_place r i l m = let room = h.room in get_or-set_other x₃ (q.f + kept) (r * w + i) b.cost nan (omega (arith, mul_room r (2 * q.channels) w l))

  run_next : (r j : ℕ) → r < 2 * q.channels → j < length (news ++ (t ∷ [])) → get_or (set x₃ (q.f + kept) b.cost) (r * w + j) nan ≡ run_of run q.n r (get_or (news ++ (t ∷ [])) j 0)
  run_next r j l m =
      let room = h.room in
      next_at (λ i tau. get_or (set x₃ (q.f + kept) b.cost) (r * w + i) nan ≡ run_of run q.n r tau) news t
      (λ i k. last_place r i l (omega (arith, many_news, fewer, few, d.early))
      ∙ d.joined.rest r i l (omega (arith, many_news, fewer, few, d.early)) (omega (arith, many_news))
      ∙ kept_run r (run_of run q.n r) (omega arith) (λ i g. at_front (r * w + i) nan d.weighed.frame (omega (arith, run_room q _ _ r room (omega arith), many, few, d.early)) ∙ h.runs.front r i l g) i (omega (arith, many_news)))
      (subst (λ (i : ℕ). get_or (set x₃ (q.f + kept) b.cost) (r * w + i) nan ≡ run_of run q.n r t) (sym many_news)
      (last_place r kept l (omega (arith, fewer, few, d.early))
      ∙ d.joined.here r l
      ∙ d.runs.rest r t (omega arith) few d.early
      ∙ at_front (r * w + t) nan d.weighed.frame (omega (arith, run_room q _ _ r room (omega arith), d.early))
      ∙ h.runs.left r t l (omega arith) d.early))
      j m

  long_floats : length x₃ ≡ length xs
  long_floats = d.joined.frame.long ∙ d.runs.frame.long ∙ d.weighed.frame.long

  least_next : (j : ℕ) → j < length (news ++ (t ∷ [])) → get_or (set x₃ (q.f + kept) b.cost) (q.f + j) nan ≡ get_or (set s.f t b.cost) (get_or (news ++ (t ∷ [])) j 0) nan
  least_next j m =
      let room = h.room in
      next_at (λ i tau. get_or (set x₃ (q.f + kept) b.cost) (q.f + i) nan ≡ get_or (set s.f t b.cost) tau nan) news t
      (λ i k. get_or-set_other x₃ (q.f + kept) (q.f + i) b.cost nan (omega (arith, many_news))
      ∙ at_back (q.f + i) nan d.joined.frame (omega arith)
      ∙ ap (λ (c : ℕ). get_or x₂ (c + i) nan) room.f
      ∙ kept_run (2 * q.channels) (λ tau. get_or s.f tau nan) (omega arith)
      (λ i g. at_front (2 * q.channels * w + i) nan d.weighed.frame (omega (arith, many, few, d.early)) ∙ ap (λ (c : ℕ). get_or xs (c + i) nan) (sym room.f) ∙ h.runs.least i g) i (omega (arith, many_news))
      ∙ sym (get_or-set_other s.f t (get_or news i 0) b.cost nan (omega (arith, kept_below _ s.candidates t h.below i k))))
      (rw many_news (get_or-set_same x₃ (q.f + kept) b.cost nan (omega (arith, long_floats, fewer, few, d.early)) ∙ sym (get_or-set_same s.f t b.cost nan (omega (arith, h.long, d.early)))))
      j m

  pub stepped : Shown run q (set x₃ (q.f + kept) b.cost) (set ix₂ (q.c + kept) t) (kept + 1) (t + 1) (step_of (planned run q) q.penalty q.m t s)
  stepped =
      let room = h.room in
      let floats : length (set x₃ (q.f + kept) b.cost) ≡ length xs = length-set x₃ (q.f + kept) b.cost ∙ long_floats in
      let indices : length (set ix₂ (q.c + kept) t) ≡ length ix = length-set ix₂ (q.c + kept) t ∙ long_indices in
      subst (λ (n : State). Shown run q (set x₃ (q.f + kept) b.cost) (set ix₂ (q.c + kept) t) (kept + 1) (t + 1) n) (sym stepped_by)
      (record {
        room = rw (floats, indices) room;
        below = below_next _ s.candidates t h.below;
        rising = rising_next _ s.candidates t h.rising h.below;
        long = length-set s.f t b.cost ∙ h.long;
        from = omega (arith, h.from);
        few = omega (arith, h.few, fewer);
        candidates = push ix₂ q.c kept (q.c + kept) t refl (omega (arith, long_indices, fewer, few, d.early)) ∙ ap (λ (c : List ℕ). c ++ (t ∷ [])) front_news;
        last =
            part_above ix₂ 0 (q.n + 1) (q.c + kept) t (omega arith)
            ∙ part_front 0 (q.n + 1) d.indices.frame (omega arith)
            ∙ store ix 0 (q.n + 1) t t b.tau (omega arith) (omega (arith, d.early))
            ∙ ap (λ (c : List ℕ). set c t b.tau) h.last;
        runs = record {
          front = λ r j l m. run_next r j l m;
          left = λ r i l m n. last_place r i l n ∙ unmoved r i l (omega (arith, few)) n (omega (arith, fewer, few)) ∙ h.runs.left r i l (omega arith) n;
          least = least_next;
        };
      })

state_next : (cost : ℕ → ℕ → Float) (penalty : Float) (m n t : ℕ) → m ≤ t → state_after cost penalty m n (t + 1 - m) ≡ step_of cost penalty m t (state_after cost penalty m n (t - m))
unfolding state_after
state_next cost penalty m n t h =
    let e : t + 1 - m ≡ suc (t - m) = omega arith in
    let d : m + (t - m) ≡ t = omega arith in
    rw e (rw d refl)

pub holds_next : {run : List Float} {q : Plan} {xs : List Float} {ix : List ℕ} {count t : ℕ} → q.m ≤ t
    → Shown run q xs ix count (t + 1) (step_of (planned run q) q.penalty q.m t (state_after (planned run q) q.penalty q.m q.n (t - q.m))) → Holds run q xs ix count (t + 1)
holds_next {run} {q} {xs} {ix} {count} {t} h s = subst (λ (n : State). Shown run q xs ix count (t + 1) n) (sym (state_next (planned run q) q.penalty q.m q.n t h)) s

pub holds_at : {run : List Float} {q : Plan} {xs : List Float} {ix : List ℕ} {count t u : ℕ} → t ≡ u → Holds run q xs ix count t → Holds run q xs ix count u
holds_at {run} {q} {xs} {ix} {count} {t} {u} e h = subst (λ (k : ℕ). Holds run q xs ix count k) e h

-- what stands behind `ps`
pub part_behind : (ps cs : List ℕ) (b n : ℕ) → length ps ≡ b → part (ps ++ cs) b n ≡ take n cs
unfolding part
part_behind ps cs b n e = ap (take n) (drop_at ps cs b e)

-- the step with the areas split, as the code has them: of the floats the weights are `ws` before the step and `vs` in it
pub stepped_parts : (run : List Float) (q : Plan) (xs ws vs ys zs : List Float) (ps cs cs₂ : List ℕ) (count t old kept many size : ℕ) (b : Best) (s : State) → Shown run q (xs ++ ws) (ps ++ cs) count t s
    → length xs ≡ q.p → length ps ≡ q.c → length ys ≡ q.p → t ≤ q.n → Parted q.m t (take count cs) old → size ≡ old → Written (xs ++ ws) (xs ++ vs) q.p (weight_by q (xs ++ ws) (take old cs) size t) count
    → many ≡ old → b ≡ lowest_by q.penalty (take old vs) (take old cs) many
    → RetainedRuns (b.cost +ᶠ q.penalty) q (xs ++ vs) (ys ++ vs) count (2 * q.channels + 1) → Retained (b.cost +ᶠ q.penalty) vs 0 0 cs cs₂ 0 count count kept → Joined q ys zs kept t (2 * q.channels)
    → Shown run q (set zs (q.f + kept) b.cost ++ vs) (set ps t b.tau ++ set cs₂ kept t) (kept + 1) (t + 1) (step_of (planned run q) q.penalty q.m t s)
stepped_parts run q xs ws vs ys zs ps cs cs₂ count t old kept many size b s h lx lp ly early parted es weighed em best runs indices joined =
    let room = h.room in
    let fewer : kept ≤ t = omega (arith, indices.few, h.few, room.some) in
    let first : set (ps ++ cs) t b.tau ≡ set ps t b.tau ++ cs = set-append_left ps cs t b.tau (omega (arith, lp, room.last, early)) in
    let longer : length (set ps t b.tau) ≡ q.c = length-set ps t b.tau ∙ lp in
    let o : q.c + kept - q.c ≡ kept = omega arith in
    let floats : set (zs ++ vs) (q.f + kept) b.cost ≡ set zs (q.f + kept) b.cost ++ vs = set-append_left zs vs (q.f + kept) b.cost (omega (arith, joined.frame.long, ly, room.p, fewer, early)) in
    let last : set (set ps t b.tau ++ cs₂) (q.c + kept) t ≡ set ps t b.tau ++ set cs₂ kept t = set-append_right (set ps t b.tau) cs₂ q.c (q.c + kept) t longer (omega arith) ∙ ap (λ (k : ℕ). set ps t b.tau ++ set cs₂ k t) o in
    rw (← floats, ← last)
    (stepped run q (xs ++ ws) (xs ++ vs) (ys ++ vs) (zs ++ vs) (ps ++ cs) (set ps t b.tau ++ cs₂) count t old kept b s h
    (record {
      early = early;
      parted = rw (part_behind ps cs q.c count lp) parted;
      weighed = rw (part_behind ps cs q.c old lp) (rw es at weighed);
      best = lowest_slices q.penalty xs vs ps cs q.p q.c old many b lx lp em best;
      runs = runs;
      indices = rw first (retained_behind _ xs vs q.p 0 (set ps t b.tau) cs cs₂ q.c count kept lx longer indices);
      joined = joined_behind q ys zs vs kept t (2 * q.channels) joined (omega (arith, ly, room.p, room.f)) (omega (arith, fewer, early)) early;
    }))

-- ---- what a step's calls ask
pub room_parts : {q : Plan} (xs ws : List Float) (ps cs : List ℕ) → Room q (length (xs ++ ws)) (length (ps ++ cs)) → Room q (length xs + length ws) (length ps + length cs)
room_parts {q} xs ws ps cs r = rw (← length-append xs ws, ← length-append ps cs) r

pub count_few : {run : List Float} {q : Plan} {xs : List Float} {ix : List ℕ} {count t : ℕ} {s : State} → Shown run q xs ix count t s → count ≤ t
count_few h = omega (arith, h.few, h.room.some)

pub shown_below : {run : List Float} {q : Plan} {xs : List Float} (ps cs : List ℕ) {count t : ℕ} {s : State} → length ps ≡ q.c → Shown run q xs (ps ++ cs) count t s → AllBelow t (take count cs)
shown_below {q = q} ps cs {count} {t} l h = subst (AllBelow t) (sym h.candidates ∙ part_behind ps cs q.c count l) h.below

pub shown_rising : {run : List Float} {q : Plan} {xs : List Float} (ps cs : List ℕ) {count t : ℕ} {s : State} → length ps ≡ q.c → Shown run q xs (ps ++ cs) count t s → Rising (take count cs)
shown_rising {q = q} ps cs {count} l h = subst Rising (sym h.candidates ∙ part_behind ps cs q.c count l) h.rising
