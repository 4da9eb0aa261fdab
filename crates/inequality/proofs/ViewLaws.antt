-- Laws of what the weights are worked out from: a channel's segments, cut out of the floats and in blocks. Assumes nothing.
use Prim.Native.Nat.{ℕ, ◌+◌, ◌-◌, ◌<◌}
use mathlib.Core.Path.{◌≡◌, ◌∙◌}
use mathlib.Core.List.{List}
use lib.ListN.{get_or, take, drop}
use lib.Seq.{get_or-take, get_or-drop}

-- an element of `xs[first..end]`
pub between_at : {A : Type 0} (xs : List A) (first end j : ℕ) (d : A) → j < end - first → get_or (take (end - first) (drop first xs)) j d ≡ get_or xs (first + j) d
between_at xs first end j d h = get_or-take (end - first) (drop first xs) j d h ∙ get_or-drop first xs j d
