-- How many slots always suffice: a search over channels of n readings that answers 9 was lent fewer than n. Assumes nothing.
use Prim.Native.Nat.{ℕ, ◌/◌, ◌<◌}
use mathlib.Core.Path.{◌≡◌}
use mathlib.Core.Bool.{Bool}
use mathlib.Core.List.{List}
use lib.ListN.{length}
use lib.Ieee.{Float}
use Rattle.readings.specs.Shape.{first_length}
use Rattle.std.specs.Prelude.{Result, Ok, Err}
use Rattle.refusals.specs.declared.Refusal.{Refusal}
use Rattle.search_rules.specs.Limits.{slot_floats}
use Rattle.search_answer.specs.Outcome.{Areas}
use Rattle.search_answer.proofs.SlotLaws.{detected_slots}
use Rattle.pelt.specs.declared.Pelt.{Pelt}
use Rattle.pelt.specs.Detected.{detected}

-- `detect_multi`, and with `strict` `detect_multi_strict`; `detect` and `detect_strict` are these with one length
pub few_slots : (p : Pelt) (readings : List Float) (before after : Areas) (strict : Bool) (lengths : List ℕ) → ◌≡◌ {A = Result ℕ Refusal × Areas} (Err Refusal.Pool, after) (detected strict p readings lengths before) → length before.pool / slot_floats < first_length lengths
few_slots p readings before after strict lengths d = detected_slots strict p.cost p.penalty p.min_segment_len readings lengths before after d
