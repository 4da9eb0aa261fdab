-- How many readings of a span pass a test. Promise 3 and rule 5.7 count the finite ones. Definitions only.
use Rattle.std.specs.Prelude.{ℕ, zero, suc, ◌+◌, Bool, cond, List, get_or, Float}
use Rattle.std.specs.Float.{nan}

-- how many of the `d` readings of `xs` that begin at `p` pass `test`
unfoldable pub count_in : (Float → Bool) → List Float → ℕ → ℕ → ℕ
count_in test xs p zero = 0
count_in test xs p (suc d) = cond (test (get_or xs (p + d) nan)) (suc (count_in test xs p d)) (count_in test xs p d)
