-- What an area holds after a part of it was set to one value. Definitions only.
use Rattle.std.specs.Prelude.{ℕ, ◌+◌, ◌-◌, ◌≡◌, cond, List, ltb, length, replicate}
use Rattle.areas.specs.Parts.{part, Frame}

-- `after` holds `v` at the indices from `place` up to `place + size`, clipped to the area, and what `before` held at the others
pub record Cleared {A : Type 0} (v : A) (before after : List A) (place size : ℕ) : Type 0 where
  pub zero : part after place size ≡ part (replicate (length before) v) place size
  pub frame : Frame before after place size

-- the index where `place..place + size` ends in an area of `long` values: `place + size` clipped to `long`, and `place` itself where that is not below `long`
unfoldable pub stop_of : ℕ → ℕ → ℕ → ℕ
stop_of place size long = cond (ltb place long) (cond (ltb size (long - place)) (place + size) long) place
