-- A run of a chart over a series: a state goes from reading to reading, and the state after a reading shows that reading's record. Definitions only.
use Rattle.std.specs.Prelude.{ℕ, zero, suc, Bool, cond, List, [], ◌∷◌, ◌++◌, map, ltb, length, get_or, drop, Float}
use Rattle.std.specs.Float.{nan}

module _ {C S D : Type 0} (shown : S → D) (start : C → S) (step : C → S → ℕ → Float → S) (c : C) (xs : List Float) where
  -- the state after the first `i` readings of `xs`
  abbrev pub state_at : ℕ → S
  state_at zero = start c
  state_at (suc i) = step c (state_at i) i (get_or xs i nan)

  -- the record of the reading at `i`, and those of the first `n`
  abbrev pub record_at : ℕ → D
  record_at i = shown (state_at (suc i))

  abbrev pub records : ℕ → List D
  records zero = []
  records (suc n) = records n ++ (record_at n ∷ [])

  -- the indices, among the first `n`, whose records signal
  abbrev pub points : (D → Bool) → ℕ → List ℕ
  points signals zero = []
  points signals (suc n) = cond (signals (record_at n)) (points signals n ++ (n ∷ [])) (points signals n)

-- the state after the reading of `xs` at `i`, from the state `s` before it; `s` itself where there is no such reading
abbrev pub following : {C S : Type 0} → (C → S → ℕ → Float → S) → C → List Float → ℕ → S → S
following step c xs i s = cond (ltb i (length xs)) (step c s i (get_or xs i nan)) s

-- the lent list `entry` with `results` at its front, and behind them what it held
abbrev pub lent : {D : Type 0} → List D → List D → List D
lent results entry = results ++ drop (length results) entry

-- the lent list `entry` with the `field` of each of `records` at its front, and behind them what it held
abbrev pub column : {D A : Type 0} → (D → A) → List D → List A → List A
column field records entry = lent (map field records) entry
