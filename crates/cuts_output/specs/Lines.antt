-- The output of the program: what is said, as bytes. Rule 7.3. Definitions only.
use Rattle.std.specs.Prelude.{ℕ, zero, suc, ◌+◌, ◌/◌, ◌%◌, true, false, List, [], ◌∷◌, ◌++◌, ltb, length}
use Rattle.refusals.specs.Said.{Said, refused, answered}

-- the ASCII codes of a space, a line's end, and the two words
abbrev pub space : ℕ
space = 32

abbrev pub newline : ℕ
newline = 10

abbrev pub cuts_word : List ℕ
cuts_word = 99 ∷ 117 ∷ 116 ∷ 115 ∷ []

abbrev pub refused_word : List ℕ
refused_word = 114 ∷ 101 ∷ 102 ∷ 117 ∷ 115 ∷ 101 ∷ 100 ∷ []

-- the digit of the number `d`, which is below 10
abbrev pub digit : ℕ → ℕ
digit d = 48 + d

-- `n` in decimal, the highest digit first and no zero in front of others; the first argument bounds the digits, of which more than `n` are never needed
unfoldable pub decimal_by : ℕ → ℕ → List ℕ
decimal_by zero n = []
decimal_by (suc k) n = elim (ltb n 10) [ true ↦ digit n ∷ [] | false ↦ decimal_by k (n / 10) ++ (digit (n % 10) ∷ []) ]

unfoldable pub decimal : ℕ → List ℕ
decimal n = decimal_by (suc n) n

-- each number with a space in front
unfoldable pub spaced : List ℕ → List ℕ
spaced [] = []
spaced (n ∷ ns) = space ∷ decimal n ++ spaced ns

-- each number on a line
unfoldable pub lines : List ℕ → List ℕ
lines [] = []
lines (n ∷ ns) = decimal n ++ newline ∷ lines ns

-- `cuts` and the count, then one index a line, lowest first; or `refused`, the number and, for 8, channel and index
unfoldable pub text : Said → List ℕ
text (answered cuts) = cuts_word ++ spaced (length cuts ∷ []) ++ newline ∷ lines cuts
text (refused s) = refused_word ++ spaced (s.number ∷ s.values) ++ newline ∷ []
