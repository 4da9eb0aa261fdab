-- What the four searches promise of an answer, in a caller's words. Definitions only.
use Rattle.std.specs.Prelude.{ℕ, ◌<◌, ◌≡◌, true, false, List, length, get_or, take, Float}
use Rattle.std.specs.Float.{nan}
use Rattle.floats.specs.Finite.{finite}
use Rattle.search_answer.specs.Promise.{Cut}
use Rattle.pelt.specs.declared.Pelt.{Pelt}

-- `count` cuts of `n` readings stand in the front of the lent area, `cuts'`, as promise 2 says
pub record CutsInFront (p : Pelt) (n count : ℕ) (cuts' : List ℕ) : Type 0 where
  pub many : length (take count cuts') ≡ count
  pub cut : Cut p.min_segment_len n (take count cuts')

-- of one channel, which is channel 0: reading `i` of `readings` is not finite, and all before it are
pub record FirstGapOfOne (readings : List Float) (channel i : ℕ) : Type 0 where
  pub channel_zero : channel ≡ 0
  pub index_within : i < length readings
  pub not_finite : finite (get_or readings i nan) ≡ false
  pub lower_indices : (j : ℕ) → j < i → finite (get_or readings j nan) ≡ true
