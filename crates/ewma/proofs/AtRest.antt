-- At the place that `start` finds and at all later ones the limits are the same: a run of states by it, which also keeps the width while the place stays, shows the chart's own records. Assumes nothing.
use mathlib.Core.Path.{◌≡◌, refl, sym, ap, subst, ◌∙◌, ap₂}
use Prim.Native.Nat.{ℕ, zero, suc, ◌+◌, ◌*◌, ◌/◌, ◌%◌, ◌^◌, ◌≤◌, ◌<◌}
use native.Mathlib.Nat.{mul-le-mul, mul-pos, pow-suc}
use native.Mathlib.Omega.{arith}
use mathlib.Core.Bool.{Bool, true, false, not, cond, true≢false}
use mathlib.Core.List.{List, [], ◌∷◌, ◌++◌}
use borrow.Author.Tests.{leb-true, eqb-true}
use lib.IntN.{pos}
use lib.Dec.{T, leb, ltb, eqb, lit<}
use lib.ListN.{length, get_or}
use lib.Ieee.{Float, nan, inf, fin, binary64, up, down, round, mul, lt, le, of_int}
use lib.Ieee.Fits.{down_pos}
use lib.Ieee.Order.{round_mono}
use Rattle.std.specs.Prelude.{Result}
use Rattle.refusals.specs.declared.Refusal.{Refusal}
use Rattle.floats.specs.Numbers.{◌-ᶠ◌, ◌*ᶠ◌, ◌<ᶠ◌, ◌≤ᶠ◌}
use Rattle.floats.proofs.Order.Fractions.{le→leq}
use Rattle.floats.proofs.Order.Laws.{lt→le, not-lt→le, le_transitive}
use Rattle.elementary.specs.Power.{pow_from, powi}
use Rattle.charts.specs.Outcomes as Outcomes
use Rattle.charts.specs.Runs as Runs
use Rattle.charts.specs.Runs.{state_at, following}
use Rattle.charts.specs.declared.Place.{Place}
use Rattle.charts.proofs.Loops.{analyzed_agree, signalled_agree}
use Rattle.ewma.specs.declared.Ewma.{Ewma}
use Rattle.ewma.specs.declared.EwmaResult.{EwmaResult}
use Rattle.ewma.specs.declared.State.{State}
use Rattle.ewma.specs.declared.Limits.{Limits}
use Rattle.ewma.specs.Chart.{tests_of, place_after, half_width_at, step_of, Charted, record_of, fresh, next_of, records, signal_of, signalling, analyzed, signalled}
use Rattle.ewma.specs.Settled.{faint, width_at, settled_from, settled_of, moving_width, width_from, limits_at, limits_after, step_by, shown_of, start_state, next_state, following_state, state_of}
use Rattle.ewma.proofs.Editions.{place_next, place_within}
use Rattle.ewma.proofs.Places.{at_most_is}
use Rattle.ewma.proofs.Fading.{Within, one, rounded_within, unit_product, squared, faded_power, no_less_than_one, one_less_faint}

-- ---- the place
-- a square that is at most 1 lies from 0 to 1
square_within : (b : Float) → T (b *ᶠ b ≤ᶠ one) → Within one (b *ᶠ b)
unfolding mul
square_within nan h = absurd (unfold le in h)
square_within (inf true) h = absurd (unfold le in h)
square_within (inf false) h = absurd (unfold le in h)
square_within (fin true m e) h = rounded_within (m * up e * (m * up e)) (down e * down e) 1 (pos 0) (mul-pos (down_pos e) (down_pos e)) h
square_within (fin false m e) h = rounded_within (m * up e * (m * up e)) (down e * down e) 1 (pos 0) (mul-pos (down_pos e) (down_pos e)) h

-- where a test has passed
tested : (x : Float) → Within one x → x ≤ᶠ faint ≡ true → Within faint x
tested nan h t = absurd h
tested (inf s) h t = absurd h
tested (fin true m e) h t = absurd h
tested (fin false m e) h t = rw t tt

-- ---- a decay that is not below 1
-- no number, or at least 1
abbrev Beyond : Float → Type 0
Beyond nan = Unit {0}
Beyond (inf s) = T (not s)
Beyond (fin s m e) = T (one ≤ᶠ fin s m e)

not_below : (d : Float) → d <ᶠ one ≡ false → Beyond d
not_below nan e = tt
not_below (inf true) e = absurd (true≢false (unfold lt in e))
not_below (inf false) e = tt
not_below (fin s m g) e = not-lt→le (fin s m g) one tt tt (rw e tt)

at_least : (z : Float) → T (one ≤ᶠ z) → Beyond z
at_least nan h = tt
at_least (inf true) h = absurd (unfold le in h)
at_least (inf false) h = tt
at_least (fin s m e) h = h

-- its squares are so too, and none is faint
beyond_square : (d : Float) → Beyond d → Beyond (d *ᶠ d)
unfolding mul
beyond_square nan h = tt
beyond_square (inf true) h = absurd h
beyond_square (inf false) h = tt
beyond_square (fin true m e) h = absurd (no_less_than_one m e h)
beyond_square (fin false m e) h = at_least (round binary64 false (m * up e * (m * up e)) (down e * down e)) (subst (λ (z : Float). T (z ≤ᶠ round binary64 false (m * up e * (m * up e)) (down e * down e))) (unfold round in refl)
    (round_mono binary64 1 1 (m * up e * (m * up e)) (down e * down e) (lit< tt) (mul-pos (down_pos e) (down_pos e)) (squares (m * up e) (down e) (le→leq false 1 (pos 0) false m e h))))
  where
    squares : (a c : ℕ) → 1 * 1 * c + 0 * 1 ≤ a * 1 + 0 * c → 1 * (c * c) ≤ a * a * 1
    squares a c h = let l : c ≤ a = omega (arith, h) in let q : c * c ≤ a * a = mul-le-mul l l in omega (arith, q)

not_faint : (d : Float) → Beyond d → d ≤ᶠ faint ≡ false
not_faint nan h = unfold le in refl
not_faint (inf true) h = absurd h
not_faint (inf false) h = unfold le in refl
not_faint (fin s m g) h = go (fin s m g ≤ᶠ faint) refl
  where
    go : (t : Bool) → fin s m g ≤ᶠ faint ≡ t → t ≡ false
    go true e = absurd (unfold le in le_transitive one (fin s m g) faint h (rw e tt))
    go false e = refl

never : (k p : ℕ) (d : Float) → Beyond d → settled_from k p d ≡ p * 2 ^ k
unfolding settled_from
never zero p d h = omega arith
never (suc k) p d h = rw (settled_from, not_faint d h) (never k (2 * p) (d *ᶠ d) (beyond_square d h) ∙ rw (pow-suc 2 k) (doubled (2 ^ k)))
  where
    doubled : (v : ℕ) → 2 * p * v ≡ p * (v * 2)
    doubled v = omega arith

-- the place that is found is not before the first
after_first : (k p : ℕ) (d : Float) → p ≤ settled_from k p d
unfolding settled_from
after_first zero p d = omega arith
after_first (suc k) p d = go (d ≤ᶠ faint) (after_first k (2 * p) (d *ᶠ d))
  where
    go : (t : Bool) → 2 * p ≤ settled_from k (2 * p) (d *ᶠ d) → p ≤ elim t [ true ↦ p | false ↦ settled_from k (2 * p) (d *ᶠ d) ]
    go true h = omega arith
    go false h = omega (arith, h)

-- `place` is at least one whose decay is faint, a number of squares after the decay of the place `first`, which is `decay`
pub record Reached (place first : ℕ) (decay : Float) : Type 0 where
  pub squares : ℕ
  pub passed : first * 2 ^ squares ≤ place
  pub faint_there : Within faint (squared squares decay)

-- so is the place that is found, and each later one
reached : (k p place : ℕ) (d : Float) → Within one d → settled_from k p d ≤ place → place < p * 2 ^ k → Reached place p d
unfolding settled_from
reached zero p place d w h g = absurd (never p place h g)
  where
    never : (p place : ℕ) → p ≤ place → place < p * 1 → ⊥
    never p place h g = omega (arith, h, g)
reached (suc k) p place d w h g = go (d ≤ᶠ faint) refl h (λ l. reached k (2 * p) place (d *ᶠ d) (unit_product d d w w) l (within (2 ^ k) (rw (pow-suc 2 k) at g)))
  where
    within : (v : ℕ) → place < p * (v * 2) → place < 2 * p * v
    within v g = omega (arith, g)

    one_more : Reached place (2 * p) (d *ᶠ d) → Reached place p d
    one_more r = record { squares = suc r.squares; passed = rw (pow-suc 2 r.squares) (omega (arith, r.passed)); faint_there = r.faint_there }

    go : (t : Bool) → d ≤ᶠ faint ≡ t → elim t [ true ↦ p | false ↦ settled_from k (2 * p) (d *ᶠ d) ] ≤ place → (settled_from k (2 * p) (d *ᶠ d) ≤ place → Reached place (2 * p) (d *ᶠ d)) → Reached place p d
    go true e h f = record { squares = 0; passed = omega (arith, h); faint_there = tested d w e }
    go false e h f = one_more (f h)

-- ---- the width there
-- an even power begins with a square, and is faint where that square's power is
even_power_faint : (k n place : ℕ) (b : Float) → n ≡ 2 * place → n ≤ k → 0 < place → Within one (b *ᶠ b) → Reached place 1 (b *ᶠ b) → Within faint (pow_from k n b one)
unfolding pow_from
even_power_faint zero n place b e h l w r = absurd (nothing n place e h l)
  where
    nothing : (n place : ℕ) → n ≡ 2 * place → n ≤ 0 → 0 < place → ⊥
    nothing n place e h l = omega (arith, e, h, l)
even_power_faint (suc k) zero place b e h l w r = absurd (nothing place e l)
  where
    nothing : (place : ℕ) → 0 ≡ 2 * place → 0 < place → ⊥
    nothing place e l = omega (arith, e, l)
even_power_faint (suc k) (suc n) place b e h l w r =
    let half : suc n / 2 ≡ place = omega (arith, e) in
    let bit : suc n % 2 ≡ 0 = omega (arith, e) in
    rw (half, bit) (faded_power r.squares k place (b *ᶠ b) one (omega (arith, e, h, l)) (omega (arith, r.passed)) w (unfold le in tt) r.faint_there)

-- the width that is kept once the limits have settled, or while the place stays, is the place's own: at any place that a chart reaches, 0 included, from any other
pub width_settles : (c : Ewma) (last place : Place) → place.0 < 8192 → width_from c (limits_at c last) place ≡ half_width_at c place
unfolding width_from moving_width settled_of half_width_at width_at powi of_int
width_settles c last place high = by_place (leb (settled_from 13 1 (kept *ᶠ kept)) place.0) refl
  where
    kept : Float
    kept = one -ᶠ c.lambda

    -- where the decay is faint the width is the one at rest
    rests : Within faint (powi kept (2 * place.0)) → width_at c one ≡ half_width_at c place
    rests f = ap (width_at c) (sym (one_less_faint (powi kept (2 * place.0)) f))

    from_there : (t : Bool) → kept *ᶠ kept <ᶠ one ≡ t → settled_from 13 1 (kept *ᶠ kept) ≤ place.0 → width_at c one ≡ half_width_at c place
    from_there true e h =
        let w : Within one (kept *ᶠ kept) = square_within kept (lt→le (kept *ᶠ kept) one (rw e tt)) in
        let low : 0 < place.0 = omega (arith, after_first 13 1 (kept *ᶠ kept), h) in
        rests (even_power_faint (2 * place.0) (2 * place.0) place.0 kept refl (omega arith) low w (reached 13 1 place.0 (kept *ᶠ kept) w h (omega (arith, high))))
    from_there false e h = absurd (too_far (rw (never 13 1 (kept *ᶠ kept) (not_below (kept *ᶠ kept) e)) at h))
      where
        too_far : 8192 ≤ place.0 → ⊥
        too_far h = omega (arith, h, high)

    by_place : (t : Bool) → leb (settled_from 13 1 (kept *ᶠ kept)) place.0 ≡ t → cond t (width_at c one) (moving_width c (limits_at c last) place) ≡ half_width_at c place
    by_place true e = from_there (kept *ᶠ kept <ᶠ one) refl (leb-true (settled_from 13 1 (kept *ᶠ kept)) place.0 e)
    by_place false e = stays (eqb place.0 last.0) refl
      where
        stays : (b : Bool) → eqb place.0 last.0 ≡ b → cond b (half_width_at c last) (half_width_at c place) ≡ half_width_at c place
        stays true q = ap (λ (n : ℕ). half_width_at c (record { 0 = n })) (sym (eqb-true place.0 last.0 q))
        stays false q = refl

-- ---- a run
-- a chart that stands at a place comes to stand at the next with that one's limits
limits_move : (c : Ewma) (place : Place) (i : ℕ) (x : Float) → place.0 ≤ i → i < 4096 → limits_after c (limits_at c place) i x ≡ limits_at c (place_after c.edition place (record { 0 = i }) x)
limits_move c place i x low high =
    rw (at_most_is place.0 i low)
    (ap (λ (half : Float). record { place = place_after c.edition place (record { 0 = i }) x; half_width = half; settled = settled_of c })
    (width_settles c place (place_after c.edition place (record { 0 = i }) x) (omega (arith, high, place_next c.edition place (record { 0 = i }) x low))))

-- a state that stands for a record and its place moves on as the chart does
module _ (c : Ewma) (s : Charted) (i : ℕ) (low : s.1.0 ≤ i) (high : i < 4096) where
  next_settles : (x : Float) → next_state c (state_of c s) i x ≡ state_of c (next_of c s i x)
  unfolding step_by step_of
  next_settles x = ap (λ (l : Limits). record { shown = step_by c l.half_width s.0 (record { 0 = i }) x; limits = l }) (limits_move c s.1 i x low high)

  pub following_settles : (xs : List Float) → following_state c xs i (state_of c s) ≡ state_of c (following next_of c xs i s)
  following_settles xs = go (ltb i (length xs))
    where
      go : (b : Bool) → let x = get_or xs i nan in cond b (next_state c (state_of c s) i x) (state_of c s) ≡ state_of c (cond b (next_of c s i x) s)
      go true = next_settles (get_or xs i nan)
      go false = refl

-- so that a run of states shows the chart's own records
module _ (c : Ewma) (xs : List Float) where
  state_settles : (n : ℕ) → n ≤ 4096 → state_at shown_of start_state next_state c xs n ≡ state_of c (state_at record_of fresh next_of c xs n)
  state_settles zero h = refl
  state_settles (suc n) h =
      ap (λ (t : State). next_state c t n (get_or xs n nan)) (state_settles n (omega (arith, h)))
      ∙ next_settles c (state_at record_of fresh next_of c xs n) n (place_within c xs n) h (get_or xs n nan)

  records_settle : (n : ℕ) → n ≤ 4096 → Runs.records shown_of start_state next_state c xs n ≡ records c xs n
  records_settle zero h = refl
  records_settle (suc n) h = ap₂ (λ (l : List EwmaResult) (s : State). l ++ (s.shown ∷ [])) (records_settle n (omega (arith, h))) (state_settles (suc n) h)

  points_settle : (n : ℕ) → n ≤ 4096 → Runs.points shown_of start_state next_state c xs signal_of n ≡ signalling c xs n
  points_settle zero h = refl
  points_settle (suc n) h = ap₂ (λ (p : List ℕ) (s : State). cond (signal_of s.shown) (p ++ (n ∷ [])) p) (points_settle n (omega (arith, h))) (state_settles (suc n) h)

-- what both calls come to by the run of states is the chart's own
module _ (c : Ewma) (xs : List Float) where
  pub settled_analyzed : (entry : List EwmaResult) → ◌≡◌ {A = Result ℕ Refusal × List EwmaResult} (Outcomes.analyzed (tests_of c) (length xs) (Runs.records shown_of start_state next_state c xs) entry) (analyzed c xs entry)
  settled_analyzed entry = analyzed_agree (tests_of c) (length xs) (Runs.records shown_of start_state next_state c xs) entry (records c xs) (records_settle c xs)

  pub settled_signalled : (entry : List ℕ) → ◌≡◌ {A = Result ℕ Refusal × List ℕ} (Outcomes.signalled (tests_of c) (length xs) (Runs.points shown_of start_state next_state c xs signal_of (length xs)) entry) (signalled c xs entry)
  settled_signalled entry = signalled_agree (tests_of c) (length xs) (Runs.points shown_of start_state next_state c xs signal_of (length xs)) entry (signalling c xs (length xs)) (points_settle c xs (length xs))

-- ---- for a loop that carries a state: the record and the place that it has
abbrev pub placed : State → Charted
placed s = (s.shown, s.limits.place)

-- one turn: from a state that stands for them, after `i` readings, to the next
pub turn : (c : Ewma) (xs : List Float) (i : ℕ) (s s' : State) → s ≡ state_of c (placed s) → placed s ≡ state_at record_of fresh next_of c xs i → i < 4096 → s' ≡ following_state c xs i s
    → (placed s' ≡ following next_of c xs i (placed s)) × (s' ≡ state_of c (placed s'))
turn c xs i s s' stands state high e =
    let low : (placed s).1.0 ≤ i = subst (λ (t : Charted). t.1.0 ≤ i) (sym state) (place_within c xs i) in
    let moves : s' ≡ state_of c (following next_of c xs i (placed s)) = e ∙ ap (following_state c xs i) stands ∙ following_settles c (placed s) i low high xs in
    (ap placed moves, moves ∙ ap (state_of c) (sym (ap placed moves)))
