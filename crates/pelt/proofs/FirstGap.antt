-- Refusal 8 of the four searches: a strict one that gives it names the first reading that is not finite, the lowest channel first and then the lowest index; and one that is not strict never gives it. Assumes nothing.
use mathlib.Core.Path.{◌≡◌, sym, ap, ◌∙◌}
use Prim.Native.Nat.{ℕ, ◌<◌}
use mathlib.Core.Bool.{true, false, false≢true}
use mathlib.Core.List.{List, [], ◌∷◌}
use native.Mathlib.Omega.{arith}
use lib.ListN.{length, get_or}
use lib.Ieee.{Float, nan}
use Rattle.floats.specs.Finite.{finite}
use Rattle.readings.specs.Shape.{first_length}
use Rattle.readings.specs.FirstGap.{reading_of, FirstGap}
use Rattle.readings.proofs.FirstGapLaws.{reading_at_lem}
use Rattle.search_answer.proofs.AdmissionLaws.{Shapely}
use Rattle.std.specs.Prelude.{Result, Ok, Err}
use Rattle.refusals.specs.declared.Refusal.{Refusal}
use Rattle.search_answer.specs.Outcome.{Areas}
use Rattle.search_answer.proofs.FrontLaws.{detected_gap}
use Rattle.pelt.specs.declared.Pelt.{Pelt}
use Rattle.pelt.specs.Detected.{detected}
use Rattle.pelt.specs.Promise.{FirstGapOfOne}

module _ (p : Pelt) (readings : List Float) (before after : Areas) (k i : ℕ) where
  -- `detect_multi_strict`
  pub detect_multi_strict_gap : (lengths : List ℕ) → ◌≡◌ {A = Result ℕ Refusal × Areas} (Err (Refusal.NonFinite k i), after) (detected true p readings lengths before) → FirstGap readings (length lengths) (first_length lengths) k i
  detect_multi_strict_gap lengths d = (detected_gap true p.cost p.penalty p.min_segment_len readings lengths before after k i d).first

  -- `detect_multi`
  pub detect_multi_no_gap : (lengths : List ℕ) → ◌≡◌ {A = Result ℕ Refusal × Areas} (Err (Refusal.NonFinite k i), after) (detected false p readings lengths before) → ⊥
  detect_multi_no_gap lengths d = false≢true (detected_gap false p.cost p.penalty p.min_segment_len readings lengths before after k i d).is_strict

  -- `detect_strict`
  pub detect_strict_gap : ◌≡◌ {A = Result ℕ Refusal × Areas} (Err (Refusal.NonFinite k i), after) (detected true p readings (length readings ∷ []) before) → FirstGapOfOne readings k i
  detect_strict_gap d =
      let n = length readings in
      let gap = detected_gap true p.cost p.penalty p.min_segment_len readings (n ∷ []) before after k i d in
      let zero : k ≡ 0 = omega (arith, gap.first.channel_within) in
      let one = one_channel gap.shape in
      record {
        channel_zero = zero;
        index_within = gap.first.index_within;
        not_finite = ap finite (sym (one i gap.first.index_within) ∙ ap (λ (c : ℕ). reading_of readings n c i) (sym zero)) ∙ gap.first.not_finite;
        lower_indices = λ j h. ap finite (sym (one j (omega (arith, h, gap.first.index_within))) ∙ ap (λ (c : ℕ). reading_of readings n c j) (sym zero)) ∙ gap.first.lower_indices j h;
      }
    where
      one_channel : Shapely readings (length readings ∷ []) 1 (length readings) → (j : ℕ) → j < length readings → reading_of readings (length readings) 0 j ≡ get_or readings j nan
      one_channel s j h = reading_at_lem readings 1 (length readings) s.few s.short s.fill 0 j (omega arith) h ∙ ap (λ (at : ℕ). get_or readings at nan) (omega arith)

  -- `detect`
  pub detect_no_gap : ◌≡◌ {A = Result ℕ Refusal × Areas} (Err (Refusal.NonFinite k i), after) (detected false p readings (length readings ∷ []) before) → ⊥
  detect_no_gap d = detect_multi_no_gap (length readings ∷ []) d
