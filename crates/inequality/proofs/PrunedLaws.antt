-- Laws of the whole search: the plan's room, what is left where the search fits and where it does not, and that one outcome alone meets `Pruned`. Assumes nothing.
use Prim.Native.Nat.{ℕ, ◌+◌, ◌-◌, ◌*◌}
use mathlib.Core.Bool.{Bool, true, false, true≢false}
use mathlib.Core.Path.{◌≡◌, refl, sym, ap, ap₂, ◌∙◌}
use mathlib.Core.List.{List, ◌++◌}
use native.Mathlib.Omega.{arith}
use lib.ListN.{length, take, replicate, length-append}
use lib.Ieee.{Float}
use Rattle.floats.specs.Numbers.{+0}
use Rattle.areas.specs.Parts.{part}
use Rattle.areas.specs.Cleared.{Cleared}
use Rattle.areas.proofs.ClearedLaws.{cleared_whole, cleared_tail}
use Rattle.costs.specs.declared.CostFunction.{CostFunction}
use Rattle.search_rules.specs.Room.{search_fits}
use Rattle.search_rules.proofs.RoomLaws.{Series, Roomy, fits_series, split_floats}
use Rattle.search_rules.specs.Inequality.{predecessors}
use Rattle.inequality.specs.declared.Plan.{Plan}
use Rattle.inequality.specs.Pruned.{Pruned}
use Rattle.inequality.specs.Inner.Held.{Room, planned, Holds}
use Rattle.inequality.proofs.WeightLaws.{twice}

-- ---- the plan
pub plan_room : (cost : CostFunction) (penalty : Float) (run n k m lf li f p c : ℕ) → Series run n k m → Roomy n k lf li → f ≡ 2 * k * (n + 1) → p ≡ f + (n + 1) → c ≡ n + 1
    → Room (record { cost = cost; penalty = penalty; n = n; m = m; channels = k; f = f; p = p; c = c }) lf li
plan_room cost penalty run n k m lf li f p c s r e g h =
    let total = split_floats k (n + 1) in
    let same = twice k (n + 1) in
    record {
      short = s.short;
      few = s.few;
      some = s.some;
      ripe = s.ripe;
      f = e;
      p = g;
      floats = omega (arith, r.floats);
      last = h;
      c = omega (arith, r.indices);
    }

-- what the test has found, in the words of its contract
pub fits_of : {fits : Bool} (run n k m lf li : ℕ) → fits ≡ search_fits run n k m lf li → fits ≡ true → search_fits run n k m lf li ≡ true
fits_of run n k m lf li e t = sym e ∙ t

pub series_of : {fits : Bool} (run n k m lf li : ℕ) → fits ≡ search_fits run n k m lf li → fits ≡ true → Series run n k m
series_of run n k m lf li e t = fits_series run n k m lf li (fits_of run n k m lf li e t)

-- an area whose two parts stay as long as they were is as long as it was
pub as_long : {A : Type 0} (x y u v : List A) {zs : List A} (ws : List A) → length u ≡ length x → length v ≡ length y → zs ≡ x ++ y → length zs ≡ length ws → length (u ++ v) ≡ length ws
as_long x y u v ws eu ev e l = length-append u v ∙ ap₂ (λ (i j : ℕ). i + j) eu ev ∙ sym (length-append x y) ∙ ap length (sym e) ∙ l

-- ---- what is left
pub pruned_found : (q : Plan) (run xs xs₁ xs₂ : List Float) (ix ix₁ ix₂ : List ℕ) (count size place long : ℕ)
    → search_fits (length run) q.n q.channels q.m (length xs) (length ix) ≡ true → Holds run q xs₁ ix₁ count (q.n + 1) → length xs₁ ≡ length xs → length ix₁ ≡ length ix
    → Cleared +0 xs₁ xs₂ 0 size → size ≡ length xs₁ → Cleared 0 ix₁ ix₂ place long → place ≡ q.n + 1 → long ≡ length ix₁
    → Pruned q.cost q.penalty run q.n q.channels q.m xs xs₂ ix ix₂
unfolding predecessors part
pruned_found q run xs xs₁ xs₂ ix ix₁ ix₂ count size place long e h a b fs s is p l =
    let room = h.room in
    let last : take (q.n + 1) ix₁ ≡ predecessors (planned run q) q.penalty q.m q.n = h.last in
    let rest : ix₂ ≡ take place ix₁ ++ replicate (length ix₁ - place) 0 = cleared_tail is (omega arith) (omega arith) in
    record {
      found = λ _. rest ∙ (rw (p, b, last) refl);
      cleared = λ _. cleared_whole (rw s at fs) ∙ ap (λ (n : ℕ). replicate n +0) a;
      indices_kept = λ f. absurd (true≢false (sym e ∙ f));
      floats_kept = λ f. absurd (true≢false (sym e ∙ f));
    }

pub pruned_kept : {cost : CostFunction} {penalty : Float} {run : List Float} {n k m : ℕ} {xs : List Float} {ix : List ℕ}
    → search_fits (length run) n k m (length xs) (length ix) ≡ false → Pruned cost penalty run n k m xs xs ix ix
pruned_kept e =
    record { found = λ f. absurd (true≢false (sym f ∙ e)); cleared = λ f. absurd (true≢false (sym f ∙ e)); indices_kept = λ _. refl; floats_kept = λ _. refl }

-- ---- one outcome
pub indices_once : {cost : CostFunction} {penalty : Float} {run : List Float} {n k m : ℕ} {xs ys zs : List Float} {ix iy iz : List ℕ}
    → Pruned cost penalty run n k m xs ys ix iy → Pruned cost penalty run n k m xs zs ix iz → iy ≡ iz
indices_once {run = run} {n} {k} {m} {xs} {ix = ix} {iy} {iz} r s = side (search_fits (length run) n k m (length xs) (length ix)) refl
  where
    side : (b : Bool) → search_fits (length run) n k m (length xs) (length ix) ≡ b → iy ≡ iz
    side true e = r.found e ∙ sym (s.found e)
    side false e = r.indices_kept e ∙ sym (s.indices_kept e)

pub floats_once : {cost : CostFunction} {penalty : Float} {run : List Float} {n k m : ℕ} {xs ys zs : List Float} {ix iy iz : List ℕ}
    → Pruned cost penalty run n k m xs ys ix iy → Pruned cost penalty run n k m xs zs ix iz → ys ≡ zs
floats_once {run = run} {n} {k} {m} {xs} {ys} {zs} {ix} r s = side (search_fits (length run) n k m (length xs) (length ix)) refl
  where
    side : (b : Bool) → search_fits (length run) n k m (length xs) (length ix) ≡ b → ys ≡ zs
    side true e = r.cleared e ∙ sym (s.cleared e)
    side false e = r.floats_kept e ∙ sym (s.floats_kept e)
