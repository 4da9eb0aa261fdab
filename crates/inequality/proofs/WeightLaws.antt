-- Laws of the weights: one channel's cost more, F in front, and the whole weight of a candidate. Assumes nothing.
use Prim.Native.Nat.{ℕ, zero, suc, ◌+◌, ◌-◌, ◌*◌, ◌≤◌, ◌<◌}
use mathlib.Core.Path.{◌≡◌, refl, sym, ap, ap₂, ◌∙◌, subst}
use mathlib.Core.Bool.{Bool, true, false, cond}
use mathlib.Core.List.{List, [], ◌∷◌, map, ◌++◌}
use native.Mathlib.Omega.{arith}
use native.Mathlib.Numerals.{add-one}
use mathlib.Core.Logic.{⊎_elim}
use native.Mathlib.Nat.{eq-or-lt_of_le, le_of_suc-le-suc, not-suc-le-zero, mul_comm, mul_assoc}
use borrow.Author.Tests.{lt-ltb, le-ltb, leb-true, leb-false, le-leb}
use lib.Dec.{leb}
use lib.ListN.{length, get_or, take, drop, replicate, length-take, length-drop, length-append, length-replicate}
use Rattle.std.proofs.lemmas.List.{take_at, drop_at, drop-drop, replicate_more, get_or-replicate, get_or_append_left, get_or-append_right, append_assoc}
use borrow.Rule.Slice.PartMut.{put_mid}
use lib.Seq.{get_or-take, length-take-le}
use lib.Ieee.{Float, nan}
use Rattle.floats.specs.Numbers.{◌+ᶠ◌, ◌*ᶠ◌, ◌/ᶠ◌, ◌≤ᶠ◌, +0, -∞, of_whole}
use Rattle.areas.specs.Parts.{tab, Frame}
use Rattle.areas.proofs.PartLaws.{tab_length, tab_at, tab_same}
use Rattle.sums.proofs.ChannelLaws.{mul_more, mul_room}
use Rattle.elementary.specs.Logarithm.{ln}
use Rattle.costs.specs.Costs.{cost_of, l2_cost, smallest_normal, normal_cost}
use Rattle.costs.specs.declared.CostFunction.{CostFunction}
use Rattle.costs.specs.declared.CostFunction.TheVariants.{Normal}
use Rattle.costs.specs.declared.Segment.{Segment}
use Rattle.search_rules.specs.Inequality.{old_enough}
use Rattle.inequality.specs.declared.Plan.{Plan}
use Rattle.inequality.specs.declared.views.Channel.{Channel}
use Rattle.inequality.specs.declared.views.View.{View}
use Rattle.inequality.specs.Inner.Held.{Room, AllBelow, Rising}
use Rattle.inequality.specs.Inner.Weights.{filled, Parted, Written, segment_by, cost_by, costs_at, segment_at, with_cost, with_costs, with_logarithm, raised, variance_at, weight_by}
use Rattle.inequality.proofs.ViewLaws.{between_at}
use Rattle.inequality.proofs.FilledLaws.{filled_rest, filled_length, filled_block}
use Rattle.inequality.proofs.WrittenLaws.{written_by}

-- of candidates that are below `t` the first `m` are
pub below_fewer : (t : ℕ) (cs : List ℕ) (n m : ℕ) → m ≤ n → n ≤ length cs → AllBelow t (take n cs) → AllBelow t (take m cs)
below_fewer t cs n m h l p =
    record {
      below = λ j g. let k : j < m = rw (length-take-le m cs (omega arith)) at g in subst (λ (x : ℕ). x < t) (get_or-take n cs j 0 (omega arith) ∙ sym (get_or-take m cs j 0 k)) (p.below j (rw (length-take-le n cs l) (omega arith)));
    }

-- ---- the Normal cost by the raised variance
raised_cost : (s : Segment) → s.length *ᶠ ln (raised (l2_cost s /ᶠ s.length)) ≡ normal_cost s
unfolding raised normal_cost
raised_cost s = go (l2_cost s /ᶠ s.length ≤ᶠ +0)
  where
    go : (b : Bool) → s.length *ᶠ ln (cond b smallest_normal (l2_cost s /ᶠ s.length)) ≡ cond b (s.length *ᶠ ln smallest_normal) (s.length *ᶠ ln (l2_cost s /ᶠ s.length))
    go true = refl
    go false = refl

mapped_at : (f : Float → Float) (l : List Float) (j : ℕ) → j < length l → get_or (map f l) j nan ≡ f (get_or l j nan)
mapped_at f [] j h = absurd (not-suc-le-zero h)
mapped_at f (x ∷ l) zero h = refl
mapped_at f (x ∷ l) (suc j) h = mapped_at f l j (le_of_suc-le-suc h)

-- ---- a block of candidates: the variances, their logarithms, and the costs added to the weights
block_cost : (k : Channel) (weights vs ls : List Float) (n j : ℕ) → vs ≡ tab (variance_at k) n → ls ≡ map ln vs → j < n → with_logarithm k ls weights j ≡ with_cost Normal k weights j
unfolding with_logarithm with_cost variance_at segment_at cost_of
block_cost k weights vs ls n j ev el h =
    let logarithm : get_or ls j nan ≡ ln (variance_at k j) = ap (λ (l : List Float). get_or l j nan) el ∙ mapped_at ln vs j (rw (ev, tab_length (variance_at k) n) h) ∙ ap (λ (l : List Float). ln (get_or l j nan)) ev ∙ ap ln (tab_at (variance_at k) n j nan h) in
    ap (λ (x : Float). get_or weights j nan +ᶠ x) (ap (λ (x : Float). of_whole (k.t - get_or k.candidates.now j 0) *ᶠ x) logarithm ∙ raised_cost (segment_at k j))

pub block_added : (k : Channel) (weights vs ls after : List Float) (n : ℕ) → vs ≡ tab (variance_at k) n → ls ≡ map ln vs → length weights ≡ n → after ≡ tab (with_logarithm k ls weights) (length weights)
    → after ≡ tab (with_cost Normal k weights) (length weights)
block_added k weights vs ls after n ev el long e = e ∙ tab_same _ _ (length weights) (λ j h. block_cost k weights vs ls n j ev el (rw (← long) h))

-- the candidate `i` of a block from `first` on is the candidate `first + i`
block_here : (k rows : Channel) (g : ℕ → Float) (xs ys : List Float) (first size end i : ℕ) → ys ≡ filled g xs first → end ≡ first + size → ((j : ℕ) → j < size → segment_at rows j ≡ segment_at k (first + j)) → i < size
    → with_cost Normal rows (take (end - first) (drop first ys)) i ≡ with_cost Normal k xs (first + i)
unfolding with_cost
block_here k rows g xs ys first size end i e ee same h =
    ap₂ (λ (x : Float) (s : Segment). x +ᶠ cost_of Normal s) (between_at ys first end i nan (omega arith) ∙ filled_rest g xs (first + i) nan e (omega arith)) (same i h)

pub block_more : (k rows : Channel) (xs ys block : List Float) (first size end : ℕ) → ys ≡ filled (with_cost Normal k xs) xs first → end ≡ first + size → first + size ≤ length xs
    → ((j : ℕ) → j < size → segment_at rows j ≡ segment_at k (first + j))
    → block ≡ tab (with_cost Normal rows (take (end - first) (drop first ys))) (length (take (end - first) (drop first ys)))
    → put_mid first (end - first) ys block ≡ filled (with_cost Normal k xs) xs (first + size)
block_more k rows xs ys block first size end e ee room same here =
    let whole : length ys ≡ length xs = filled_length (with_cost Normal k xs) xs e (omega arith) in
    let long : length (take (end - first) (drop first ys)) ≡ size = simp (length-take, length-drop) (omega arith) in
    filled_block (with_cost Normal k xs) xs ys block first size (end - first) (with_cost Normal rows (take (end - first) (drop first ys))) e room (omega arith)
    (here ∙ ap (tab (with_cost Normal rows (take (end - first) (drop first ys)))) long)
    (λ i h. block_here k rows (with_cost Normal k xs) xs ys first size end i e ee same h)

-- ---- the costs of one channel more, and of two
module _ (cost : CostFunction) (v : View) (n : ℕ) (few : n ≤ length v.candidates.now) where
  costs_step : (k : Channel) (weights : List Float) (c j : ℕ) → get_or weights j nan ≡ costs_at cost v c j → segment_at k j ≡ segment_by v.parts.now v.w (2 * c * v.w) j (get_or v.candidates.now j 0) v.t
      → with_cost cost k weights j ≡ costs_at cost v (c + 1) j
  unfolding costs_at with_cost cost_by
  costs_step k weights c j e s = rw (add-one, e, s) refl

  pub costs_more : (k : Channel) (weights after : List Float) (c d e : ℕ) → weights ≡ tab (costs_at cost v c) n → d ≡ c → e ≡ c + 1
      → ((j : ℕ) → j < length v.candidates.now → segment_at k j ≡ segment_by v.parts.now v.w (2 * d * v.w) j (get_or v.candidates.now j 0) v.t)
      → after ≡ tab (with_cost cost k weights) (length weights) → after ≡ tab (costs_at cost v e) n
  costs_more k weights after c d e before ed ee rows here =
      let long : length weights ≡ n = ap length before ∙ tab_length (costs_at cost v c) n in
      here
      ∙ ap (tab (with_cost cost k weights)) long
      ∙ tab_same _ _ n (λ j h. costs_step k weights c j (ap (λ (l : List Float). get_or l j nan) before ∙ tab_at (costs_at cost v c) n j nan h) (rw ed at (rows j (omega arith))))
      ∙ ap (λ (i : ℕ). tab (costs_at cost v i) n) (sym ee)

  costs_second : (k next : Channel) (weights : List Float) (m j : ℕ) → j < m → with_cost cost k weights j +ᶠ cost_of cost (segment_at next j) ≡ with_cost cost next (tab (with_cost cost k weights) m) j
  unfolding with_cost
  costs_second k next weights m j h = ap (λ (x : Float). x +ᶠ cost_of cost (segment_at next j)) (sym (tab_at (λ (i : ℕ). get_or weights i nan +ᶠ cost_of cost (segment_at k i)) m j nan h))

  pub costs_two : (k next : Channel) (weights after : List Float) (c d d' e : ℕ) → weights ≡ tab (costs_at cost v c) n → d ≡ c → d' ≡ c + 1 → e ≡ c + 2
      → ((j : ℕ) → j < length v.candidates.now → segment_at k j ≡ segment_by v.parts.now v.w (2 * d * v.w) j (get_or v.candidates.now j 0) v.t)
      → ((j : ℕ) → j < length v.candidates.now → segment_at next j ≡ segment_by v.parts.now v.w (2 * d' * v.w) j (get_or v.candidates.now j 0) v.t)
      → after ≡ tab (with_costs cost k next weights) (length weights) → after ≡ tab (costs_at cost v e) n
  unfolding with_costs
  costs_two k next weights after c d d' e before ed ed' ee rows rows' here =
      let middle : List Float = tab (with_cost cost k weights) (length weights) in
      let long : length weights ≡ n = ap length before ∙ tab_length (costs_at cost v c) n in
      let first : middle ≡ tab (costs_at cost v (c + 1)) n = costs_more k weights middle c d (c + 1) before ed refl rows refl in
      let same : length middle ≡ length weights = tab_length (with_cost cost k weights) (length weights) in
      costs_more next middle after (c + 1) d' e first ed' (omega arith) rows'
      (here ∙ tab_same _ _ (length weights) (λ j h. costs_second k next weights (length weights) j h) ∙ ap (tab (with_cost cost next middle)) (sym same))

-- the sums of the channel `c` of `k` stand before F's part
pub channel_room : (c k w : ℕ) → c < k → 2 * c * w + w + w ≤ 2 * k * w
channel_room c k w h = omega (arith, mul_more (2 * c) w, mul_room (2 * c + 1) (2 * k) w (omega arith))

pub twice : (c w : ℕ) → 2 * c * w ≡ c * (2 * w)
twice c w = ap (λ (k : ℕ). k * w) (mul_comm 2 c) ∙ mul_assoc c 2 w

-- the costs before the first channel
constant : (n : ℕ) (v : Float) → replicate n v ≡ tab (λ j. v) n
unfolding tab
constant zero v = refl
constant (suc n) v = ap (λ (k : ℕ). replicate k v) (sym (add-one n)) ∙ sym (replicate_more n v) ∙ ap (λ (l : List Float). l ++ (v ∷ [])) (constant n v)

pub costs_none : (cost : CostFunction) (v : View) (weights : List Float) (n : ℕ) (z : Float) → weights ≡ replicate n z → z ≡ +0 → weights ≡ tab (costs_at cost v 0) (length weights)
unfolding costs_at cost_by
costs_none cost v weights n z e ez =
    let long : length weights ≡ n = ap length e ∙ length-replicate n z in
    e ∙ constant n z ∙ ap (λ (x : Float). tab (λ j. x) n) ez ∙ ap (λ (k : ℕ). tab (λ j. +0) k) (sym long)

-- ---- the weights of all candidates, from the costs, F and the young
-- the costs by the parts of the floats are those by all of them
cost_same : (cost : CostFunction) (x y : List Float) (w p j tau t k c : ℕ) → ((i : ℕ) → i < p → get_or x i nan ≡ get_or y i nan) → 2 * k * w ≤ p → t < w → j < w → c ≤ k
    → cost_by cost x w j tau t c ≡ cost_by cost y w j tau t c
unfolding cost_by segment_by
cost_same cost x y w p j tau t k zero f h l g m = refl
cost_same cost x y w p j tau t k (suc c) f h l g m =
    let room = channel_room c k w m in
    rw (cost_same cost x y w p j tau t k c f h l g (omega arith), f (2 * c * w + t) (omega arith), f (2 * c * w + j) (omega arith), f (2 * c * w + w + t) (omega arith), f (2 * c * w + w + j) (omega arith)) refl

-- the floats `x` are the parts that hold sums and F, and what is behind them: of the weights there `old` were written as `ripe` and the others as `young`
module _ (q : Plan) (v : View) (x parts behind costs ripe young : List Float) (cs : List ℕ) (li old count t : ℕ)
    (room : Room q (length x) li) (few : old ≤ count) (short : count ≤ q.n) (early : t ≤ q.n)
    (ex : x ≡ parts ++ behind) (lp : length parts ≡ q.p) (vp : v.parts.now ≡ parts) (vc : v.candidates.now ≡ cs) (vw : v.w ≡ q.n + 1) (vt : v.t ≡ t)
    (ec : costs ≡ tab (costs_at q.cost v q.channels) old) (lr : length ripe ≡ old) (er : ripe ≡ tab (λ j. get_or parts (q.f + j) nan +ᶠ get_or costs j nan) old)
    (ey : young ≡ replicate (count - old) -∞) where
  abbrev rest : List Float
  rest = drop count behind

  in_parts : (i : ℕ) → i < q.p → get_or parts i nan ≡ get_or x i nan
  in_parts i h = sym (ap (λ (l : List Float). get_or l i nan) ex ∙ get_or_append_left parts behind nan i (omega arith))

  cost_here : (j : ℕ) → j < old → get_or costs j nan ≡ cost_by q.cost x (q.n + 1) j (get_or cs j 0) t q.channels
  unfolding costs_at
  cost_here j h =
      ap (λ (l : List Float). get_or l j nan) ec
      ∙ tab_at (λ (i : ℕ). cost_by q.cost v.parts.now v.w i (get_or v.candidates.now i 0) v.t q.channels) old j nan h
      ∙ (rw (vp, vc, vw, vt) (cost_same q.cost parts x (q.n + 1) q.p j (get_or cs j 0) t q.channels q.channels in_parts (omega (arith, room.p, room.f)) (omega arith) (omega arith) (omega arith)))

  ripe_here : (j : ℕ) → j < old → get_or ripe j nan ≡ weight_by q x cs old t j
  unfolding weight_by
  ripe_here j h =
      rw (lt-ltb j old h)
      (ap (λ (l : List Float). get_or l j nan) er
      ∙ tab_at (λ (i : ℕ). get_or parts (q.f + i) nan +ᶠ get_or costs i nan) old j nan h
      ∙ ap₂ ◌+ᶠ◌ (in_parts (q.f + j) (omega (arith, room.p))) (cost_here j h))

  young_length : length young ≡ count - old
  young_length = ap length ey ∙ length-replicate (count - old) -∞

  young_here : (j : ℕ) → old ≤ j → j < count → get_or young (j - old) nan ≡ weight_by q x cs old t j
  unfolding weight_by
  young_here j l h = rw (le-ltb j old l) (ap (λ (s : List Float). get_or s (j - old) nan) ey ∙ get_or-replicate (count - old) (j - old) -∞ nan (omega arith))

  weight_here : (j : ℕ) → j < count → (b : Bool) → leb old j ≡ b → get_or (ripe ++ (young ++ rest)) j nan ≡ weight_by q x cs old t j
  weight_here j h true e = let l = leb-true old j e in get_or-append_right ripe (young ++ rest) old j nan lr l ∙ get_or_append_left young rest nan (j - old) (rw young_length (omega arith)) ∙ young_here j l h
  weight_here j h false e = let l = leb-false old j e in get_or_append_left ripe (young ++ rest) nan j (omega arith) ∙ ripe_here j l

  joined : parts ++ put_mid old (count - old) (ripe ++ drop old behind) young ≡ parts ++ (ripe ++ (young ++ rest))
  joined =
      let e : old + (count - old) ≡ count = omega arith in
      ap₂ (λ (a b : List Float). parts ++ (a ++ (young ++ b))) (take_at ripe (drop old behind) old lr)
      (ap (drop (count - old)) (drop_at ripe (drop old behind) old lr) ∙ drop-drop (count - old) old behind ∙ ap (λ (k : ℕ). drop k behind) e)

  whole : length x ≡ q.p + length behind
  whole = ap length ex ∙ length-append parts behind ∙ ap (λ (k : ℕ). k + length behind) lp

  after_length : length (parts ++ (ripe ++ (young ++ rest))) ≡ length x
  after_length = simp (length-append, length-drop) (omega (arith, whole, young_length, room.floats))

  after_frame : Frame x (parts ++ (ripe ++ (young ++ rest))) q.p count
  after_frame =
      record {
        front = take_at parts (ripe ++ (young ++ rest)) q.p lp ∙ sym (take_at parts behind q.p lp) ∙ ap (take q.p) (sym ex);
        back =
            sym (drop-drop count q.p (parts ++ (ripe ++ (young ++ rest))))
            ∙ ap (drop count) (drop_at parts (ripe ++ (young ++ rest)) q.p lp ∙ sym (append_assoc ripe young rest))
            ∙ drop_at (ripe ++ young) rest count (simp length-append (omega (arith, young_length)))
            ∙ ap (drop count) (sym (drop_at parts behind q.p lp))
            ∙ ap (λ (l : List Float). drop count (drop q.p l)) (sym ex)
            ∙ drop-drop count q.p x;
        long = after_length;
      }

  pub weighed : Written x (parts ++ put_mid old (count - old) (ripe ++ drop old behind) young) q.p (weight_by q x cs old t) count
  weighed =
      subst (λ (l : List Float). Written x l q.p (weight_by q x cs old t) count) (sym joined)
      (written_by (weight_by q x cs old t) nan after_frame (omega (arith, room.floats, after_length))
      (λ j h. let e : q.p + j - q.p ≡ j = omega arith in
      get_or-append_right parts (ripe ++ (young ++ rest)) q.p (q.p + j) nan lp (omega arith)
      ∙ ap (λ (k : ℕ). get_or (ripe ++ (young ++ rest)) k nan) e
      ∙ weight_here j h (leb old j) refl))

-- the same with the slices and lengths as the code has them
pub weighed_by : (q : Plan) (v : View) (x parts behind costs ripe young : List Float) (cs : List ℕ) (li old count t m n k : ℕ) (z : Float) → Room q (length x) li → old ≤ count → count ≤ q.n → t ≤ q.n
    → x ≡ parts ++ behind → length parts ≡ q.p → v.parts.now ≡ parts → v.candidates.now ≡ cs → v.w ≡ q.n + 1 → v.t ≡ t
    → m ≡ old → costs ≡ tab (costs_at q.cost v q.channels) m
    → n ≡ old → ripe ≡ tab (λ j. get_or (take (length parts - q.f) (drop q.f parts)) j nan +ᶠ get_or costs j nan) n
    → k ≡ count - old → z ≡ -∞ → young ≡ replicate k z → Written x (parts ++ put_mid old (count - old) (ripe ++ drop old behind) young) q.p (weight_by q x cs old t) count
weighed_by q v x parts behind costs ripe young cs li old count t m n k z room few short early ex lp vp vc vw vt em ec en er ek ez ey =
    let many : ripe ≡ tab (λ j. get_or (take (length parts - q.f) (drop q.f parts)) j nan +ᶠ get_or costs j nan) old =
    er ∙ ap (tab (λ j. get_or (take (length parts - q.f) (drop q.f parts)) j nan +ᶠ get_or costs j nan)) en in
    weighed q v x parts behind costs ripe young cs li old count t room few short early ex lp vp vc vw vt
    (ec ∙ ap (tab (costs_at q.cost v q.channels)) em)
    (ap length many ∙ tab_length _ old)
    (many ∙ tab_same _ _ old (λ j h. ap (λ (a : Float). a +ᶠ get_or costs j nan) (between_at parts q.f (length parts) j nan (omega (arith, room.p)))))
    (ey ∙ ap₂ (λ (i : ℕ) (a : Float). replicate i a) ek ez)

-- ---- the first candidates are old, the others young
pub parted_here : (m t : ℕ) (cs : List ℕ) (old i tau : ℕ) → Rising cs → i < old → old ≤ i + 1 → old ≤ length cs → tau ≡ get_or cs i 0 → old_enough m t tau ≡ true
    → ((j : ℕ) → old ≤ j → j < length cs → old_enough m t (get_or cs j 0) ≡ false) → Parted m t cs old
unfolding old_enough
parted_here m t cs old i tau r h g l e o f =
    record {
      few = l;
      front = λ j k. le-leb m (t - get_or cs j 0) (older j k);
      tail = f;
    }
  where
    older : (j : ℕ) → j < old → m ≤ t - get_or cs j 0
    older j k = ⊎_elim
        (λ q. subst (λ (k : ℕ). m ≤ t - k) (e ∙ ap (λ (k : ℕ). get_or cs k 0) (sym q)) (leb-true m (t - tau) o))
        (λ s. let a = r.rising j i s (omega arith) in omega (arith, leb-true m (t - tau) o))
        (eq-or-lt_of_le (le_of_suc-le-suc (omega arith)))

pub parted_none : (m t : ℕ) (cs : List ℕ) → ((j : ℕ) → 0 ≤ j → j < length cs → old_enough m t (get_or cs j 0) ≡ false) → Parted m t cs 0
parted_none m t cs f = record { few = omega arith; front = λ j h. absurd (not-suc-le-zero h); tail = f }

-- one more young candidate, `i`
pub young_more : (m t : ℕ) (cs : List ℕ) (old i : ℕ) → i + 1 ≡ old → old_enough m t (get_or cs i 0) ≡ false → ((j : ℕ) → old ≤ j → j < length cs → old_enough m t (get_or cs j 0) ≡ false)
    → (j : ℕ) → i ≤ j → j < length cs → old_enough m t (get_or cs j 0) ≡ false
young_more m t cs old i e o f j h l = ⊎_elim (λ q. rw (← q) o) (λ s. f j (omega arith) l) (eq-or-lt_of_le h)
