-- Promise 2 of the four searches: where one answers with a count, that many cuts stand in the front of the lent area, they rise strictly, every piece has at least the minimum length, and there are at most n/2. Assumes nothing.
use Prim.Native.Nat.{ℕ}
use mathlib.Core.Path.{◌≡◌}
use mathlib.Core.Bool.{Bool, true, false}
use mathlib.Core.List.{List, [], ◌∷◌}
use lib.ListN.{length}
use lib.Ieee.{Float}
use Rattle.readings.specs.Shape.{first_length}
use Rattle.std.specs.Prelude.{Result, Ok, Err}
use Rattle.refusals.specs.declared.Refusal.{Refusal}
use Rattle.search_answer.specs.Outcome.{Areas}
use Rattle.search_answer.proofs.CutLaws.{detected_cuts}
use Rattle.search_answer.proofs.FrontLaws.{detected_count}
use Rattle.pelt.specs.declared.Pelt.{Pelt}
use Rattle.pelt.specs.Detected.{detected}
use Rattle.pelt.specs.Promise.{CutsInFront}

module _ (p : Pelt) (readings : List Float) (before after : Areas) (count : ℕ) where
  front : (strict : Bool) (lengths : List ℕ) → ◌≡◌ {A = Result ℕ Refusal × Areas} (Ok count, after) (detected strict p readings lengths before) → CutsInFront p (first_length lengths) count after.cuts
  front strict lengths d =
      record {
        many = detected_count strict p.cost p.penalty p.min_segment_len readings lengths before after count d;
        cut = detected_cuts strict p.cost p.penalty p.min_segment_len readings lengths before after count d;
      }

  -- `detect` and `detect_strict`, of one channel
  pub detect_cuts : ◌≡◌ {A = Result ℕ Refusal × Areas} (Ok count, after) (detected false p readings (length readings ∷ []) before) → CutsInFront p (length readings) count after.cuts
  detect_cuts d = front false (length readings ∷ []) d

  pub detect_strict_cuts : ◌≡◌ {A = Result ℕ Refusal × Areas} (Ok count, after) (detected true p readings (length readings ∷ []) before) → CutsInFront p (length readings) count after.cuts
  detect_strict_cuts d = front true (length readings ∷ []) d

  -- `detect_multi` and `detect_multi_strict`, of channels with these lengths, which are all the first one's
  pub detect_multi_cuts : (lengths : List ℕ) → ◌≡◌ {A = Result ℕ Refusal × Areas} (Ok count, after) (detected false p readings lengths before) → CutsInFront p (first_length lengths) count after.cuts
  detect_multi_cuts lengths d = front false lengths d

  pub detect_multi_strict_cuts : (lengths : List ℕ) → ◌≡◌ {A = Result ℕ Refusal × Areas} (Ok count, after) (detected true p readings lengths before) → CutsInFront p (first_length lengths) count after.cuts
  detect_multi_strict_cuts lengths d = front true lengths d
