-- For the private functions: what a walk back has before it. Definitions only.
use Rattle.std.specs.Prelude.{ℕ, List, reverse}
use Rattle.backtrack.specs.Cuts.{cuts_of}

-- the cuts before `t`, highest first
unfoldable pub cuts_back : List ℕ → ℕ → List ℕ
cuts_back indices t = reverse (cuts_of indices t)
