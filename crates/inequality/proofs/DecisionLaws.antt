-- What the areas hold of the candidates decides as the recurrence does: costs by the sums, weights, the best, and those that stay. Assumes nothing.
use Prim.Native.Nat.{ℕ, zero, suc, ◌+◌, ◌-◌, ◌*◌, ◌/◌, ◌%◌, ◌≤◌, ◌<◌}
use mathlib.Core.Bool.{Bool, true, false, cond}
use mathlib.Core.Path.{◌≡◌, refl, sym, ap, ap₂, ◌∙◌}
use mathlib.Core.List.{List, [], ◌∷◌, ◌++◌, map}
use native.Mathlib.Omega.{arith}
use native.Mathlib.Nat.{le_of_suc-le-suc, not-suc-le-zero}
use borrow.Author.Tests.{lt-ltb, le-ltb, leb-true, leb-false}
use lib.Dec.{leb}
use lib.ListN.{length, get_or}
use lib.Ieee.{Float, nan}
use Rattle.floats.specs.Numbers.{◌+ᶠ◌, ◌<ᶠ◌}
use Rattle.readings.specs.Channels.{channel_of}
use Rattle.sums.specs.Sums.{mean_of, centred_to, squares_to}
use Rattle.sums.proofs.ChannelLaws.{mul_more}
use Rattle.costs.specs.Costs.{segment_of, segment_about, cost_of, cost_to}
use Rattle.search_rules.specs.Minimum.{scan_to, kept_to}
use Rattle.search_rules.specs.Inequality.{State, old_enough, part_of, best_at, price}
use Rattle.areas.specs.Parts.{part}
use Rattle.areas.proofs.PartLaws.{part_at}
use Rattle.inequality.specs.declared.Plan.{Plan}
use Rattle.inequality.specs.Inner.Held.{planned, run_of, Runs}
use Rattle.inequality.specs.Inner.Weights.{Parted, Written, segment_by, cost_by, weight_by, lowest_by}
use Rattle.inequality.specs.Inner.Staying.{stays, kept_by}
use Rattle.inequality.proofs.WrittenLaws.{written_at}

-- ---- the parts of a channel
sums_run : (run : List Float) (n c i : ℕ) → run_of run n (2 * c) i ≡ centred_to (channel_of run n c) (mean_of (channel_of run n c)) i
unfolding run_of
sums_run run n c i =
    let e : 2 * c / 2 ≡ c = omega arith in
    let f : 2 * c % 2 ≡ 0 = omega arith in
    rw (e, f) refl

squares_run : (run : List Float) (n c i : ℕ) → run_of run n (2 * c + 1) i ≡ squares_to (channel_of run n c) (mean_of (channel_of run n c)) i
unfolding run_of
squares_run run n c i =
    let e : (2 * c + 1) / 2 ≡ c = omega arith in
    let f : (2 * c + 1) % 2 ≡ 1 = omega arith in
    rw (e, f) refl

segment_of_lem : (run : List Float) (q : Plan) (xs : List Float) (cs : List ℕ) (f : List Float) (t j c : ℕ) → Runs run q xs cs f t → t ≤ q.n → j < length cs → c < q.channels
    → segment_by xs (q.n + 1) (2 * c * (q.n + 1)) j (get_or cs j 0) t ≡ segment_of (channel_of run q.n c) (get_or cs j 0) t
unfolding segment_by segment_of segment_about
segment_of_lem run q xs cs f t j c r h l g =
    let w = q.n + 1 in
    let e : (2 * c + 1) * w ≡ 2 * c * w + w = mul_more (2 * c) w in
    let sum : get_or xs (2 * c * w + t) nan ≡ centred_to (channel_of run q.n c) (mean_of (channel_of run q.n c)) t = r.left (2 * c) t (omega arith) (omega arith) h ∙ sums_run run q.n c t in
    let sum_here : get_or xs (2 * c * w + j) nan ≡ centred_to (channel_of run q.n c) (mean_of (channel_of run q.n c)) (get_or cs j 0) = r.front (2 * c) j (omega arith) l ∙ sums_run run q.n c (get_or cs j 0) in
    let squares : get_or xs (2 * c * w + w + t) nan ≡ squares_to (channel_of run q.n c) (mean_of (channel_of run q.n c)) t = ap (λ (k : ℕ). get_or xs (k + t) nan) (sym e) ∙ r.left (2 * c + 1) t (omega arith) (omega arith) h ∙ squares_run run q.n c t in
    let squares_here : get_or xs (2 * c * w + w + j) nan ≡ squares_to (channel_of run q.n c) (mean_of (channel_of run q.n c)) (get_or cs j 0) = ap (λ (k : ℕ). get_or xs (k + j) nan) (sym e) ∙ r.front (2 * c + 1) j (omega arith) l ∙ squares_run run q.n c (get_or cs j 0) in
    rw (sum, sum_here, squares, squares_here) refl

cost_of_lem : (run : List Float) (q : Plan) (xs : List Float) (cs : List ℕ) (f : List Float) (t j c : ℕ) → Runs run q xs cs f t → t ≤ q.n → j < length cs → c ≤ q.channels
    → cost_by q.cost xs (q.n + 1) j (get_or cs j 0) t c ≡ cost_to q.cost run q.n (get_or cs j 0) t c
unfolding cost_by cost_to
cost_of_lem run q xs cs f t j zero r h l g = refl
cost_of_lem run q xs cs f t j (suc c) r h l g = ap₂ ◌+ᶠ◌ (cost_of_lem run q xs cs f t j c r h l (omega arith)) (ap (cost_of q.cost) (segment_of_lem run q xs cs f t j c r h l g))

-- ---- a weight
pub part_of_lem : (run : List Float) (q : Plan) (xs ys : List Float) (ix : List ℕ) (cs : List ℕ) (f : List Float) (t old j : ℕ) → Runs run q xs cs f t → t ≤ q.n → Parted q.m t cs old
    → Written xs ys q.p (weight_by q xs (part ix q.c old) old t) (length cs) → ((i : ℕ) → i < length cs → get_or ix (q.c + i) 0 ≡ get_or cs i 0) → j < length cs
    → get_or ys (q.p + j) nan ≡ part_of (planned run q) q.m f t (get_or cs j 0)
unfolding weight_by part_of price
part_of_lem run q xs ys ix cs f t old j r h p w e l = written_at j nan w l ∙ side (leb old j) refl
  where
    side : (b : Bool) → leb old j ≡ b → weight_by q xs (part ix q.c old) old t j ≡ part_of (planned run q) q.m f t (get_or cs j 0)
    side true k = let g = leb-true old j k in rw (le-ltb j old g, p.tail j g l) refl
    side false k =
        let g = leb-false old j k in
        rw (lt-ltb j old g, p.front j g, sym (part_at ix q.c old j 0 g) ∙ e j l) (ap₂ ◌+ᶠ◌ (r.least j l) (cost_of_lem run q xs cs f t j q.channels r h l (omega arith)))

-- ---- the best
scan_front : (penalty : Float) (ys : List Float) (ix : List ℕ) (takes : ℕ → Bool) (weight : ℕ → Float) (cs : List ℕ) (j : ℕ) → ((i : ℕ) → i < j → get_or ys i nan ≡ weight (get_or cs i 0))
    → ((i : ℕ) → i < j → get_or ix i 0 ≡ get_or cs i 0) → ((i : ℕ) → i < j → takes (get_or cs i 0) ≡ true)
    → lowest_by penalty ys ix j ≡ scan_to takes (λ tau. weight tau +ᶠ penalty) cs j
unfolding lowest_by scan_to
scan_front penalty ys ix takes weight cs zero e f o = refl
scan_front penalty ys ix takes weight cs (suc j) e f o =
    rw (o j (omega arith), e j (omega arith), f j (omega arith), scan_front penalty ys ix takes weight cs j (λ i h. e i (omega arith)) (λ i h. f i (omega arith)) (λ i h. o i (omega arith))) refl

scan_tail : (takes : ℕ → Bool) (total : ℕ → Float) (cs : List ℕ) (old d : ℕ) → ((j : ℕ) → old ≤ j → j < old + d → takes (get_or cs j 0) ≡ false) → scan_to takes total cs (old + d) ≡ scan_to takes total cs old
unfolding scan_to
scan_tail takes total cs old zero f = let e : old + 0 ≡ old = omega arith in ap (scan_to takes total cs) e
scan_tail takes total cs old (suc d) f =
    let e : old + suc d ≡ suc (old + d) = omega arith in
    rw (e, f (old + d) (omega arith) (omega arith)) (scan_tail takes total cs old d (λ j h l. f j h (omega arith)))

pub best_of : (run : List Float) (q : Plan) (ys : List Float) (ix : List ℕ) (s : State) (t old : ℕ) → Parted q.m t s.candidates old
    → ((i : ℕ) → i < length s.candidates → get_or ys (q.p + i) nan ≡ part_of (planned run q) q.m s.f t (get_or s.candidates i 0))
    → ((i : ℕ) → i < length s.candidates → get_or ix (q.c + i) 0 ≡ get_or s.candidates i 0)
    → lowest_by q.penalty (part ys q.p old) (part ix q.c old) old ≡ best_at (planned run q) q.penalty q.m t s
unfolding best_at
best_of run q ys ix s t old p e f =
    let few = p.few in
    let d : old + (length s.candidates - old) ≡ length s.candidates = omega arith in
    let weight : ℕ → Float = part_of (planned run q) q.m s.f t in
    scan_front q.penalty (part ys q.p old) (part ix q.c old) (old_enough q.m t) weight s.candidates old
    (λ i h. sym (part_at ys q.p old i nan h) ∙ e i (omega arith))
    (λ i h. sym (part_at ix q.c old i 0 h) ∙ f i (omega arith))
    p.front
    ∙ sym (scan_tail (old_enough q.m t) (λ tau. weight tau +ᶠ q.penalty) s.candidates old (length s.candidates - old) (λ j h l. p.tail j h (omega arith)))
    ∙ ap (scan_to (old_enough q.m t) (λ tau. weight tau +ᶠ q.penalty) s.candidates) d

-- ---- those that stay
pub kept_is : (bound : Float) (ys : List Float) (p : ℕ) (weight : ℕ → Float) (ix : List ℕ) (b : ℕ) (cs : List ℕ) (j : ℕ) → ((i : ℕ) → i < j → get_or ys (p + i) nan ≡ weight (get_or cs i 0))
    → ((i : ℕ) → i < j → get_or ix (b + i) 0 ≡ get_or cs i 0) → kept_by bound ys p 0 ix b j ≡ kept_to (λ tau. weight tau <ᶠ bound) cs j
unfolding kept_by kept_to
kept_is bound ys p weight ix b cs zero e f = refl
kept_is bound ys p weight ix b cs (suc j) e f =
    rw (e j (omega arith), f j (omega arith), kept_is bound ys p weight ix b cs j (λ i h. e i (omega arith)) (λ i h. f i (omega arith))) refl

map_last : (g : ℕ → Float) (l : List ℕ) (x : ℕ) → map g (l ++ (x ∷ [])) ≡ map g l ++ (g x ∷ [])
map_last g [] x = refl
map_last g (y ∷ l) x = ap (λ (r : List Float). g y ∷ r) (map_last g l x)

-- what a part holds of those that stay is what it held of them
kept_map : (bound : Float) (ys : List Float) (p : ℕ) (g : ℕ → Float) (values : List Float) (a : ℕ) (ix : List ℕ) (b j : ℕ) → ((i : ℕ) → i < j → get_or values (a + i) nan ≡ g (get_or ix (b + i) 0))
    → kept_by bound ys p nan values a j ≡ map g (kept_by bound ys p 0 ix b j)
unfolding kept_by
kept_map bound ys p g values a ix b zero e = refl
kept_map bound ys p g values a ix b (suc j) e = go (stays bound ys p j) (kept_map bound ys p g values a ix b j (λ i h. e i (omega arith)))
  where
    go : (c : Bool) → kept_by bound ys p nan values a j ≡ map g (kept_by bound ys p 0 ix b j)
        → cond c (kept_by bound ys p nan values a j ++ (get_or values (a + j) nan ∷ [])) (kept_by bound ys p nan values a j)
        ≡ map g (cond c (kept_by bound ys p 0 ix b j ++ (get_or ix (b + j) 0 ∷ [])) (kept_by bound ys p 0 ix b j))
    go true h = ap₂ (λ (l : List Float) (x : Float). l ++ (x ∷ [])) h (e j (omega arith)) ∙ sym (map_last g (kept_by bound ys p 0 ix b j) (get_or ix (b + j) 0))
    go false h = h

map_at : (g : ℕ → Float) (l : List ℕ) (j : ℕ) → j < length l → get_or (map g l) j nan ≡ g (get_or l j 0)
map_at g [] j h = absurd (not-suc-le-zero h)
map_at g (x ∷ l) zero h = refl
map_at g (x ∷ l) (suc j) h = map_at g l j (le_of_suc-le-suc h)

pub kept_at : (bound : Float) (ys : List Float) (p : ℕ) (g : ℕ → Float) (values : List Float) (a : ℕ) (ix : List ℕ) (b n j : ℕ) → ((i : ℕ) → i < n → get_or values (a + i) nan ≡ g (get_or ix (b + i) 0))
    → j < length (kept_by bound ys p 0 ix b n) → get_or (kept_by bound ys p nan values a n) j nan ≡ g (get_or (kept_by bound ys p 0 ix b n) j 0)
kept_at bound ys p g values a ix b n j e h = ap (λ (l : List Float). get_or l j nan) (kept_map bound ys p g values a ix b n e) ∙ map_at g (kept_by bound ys p 0 ix b n) j h
