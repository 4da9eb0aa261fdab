-- Promise 3 of what programs in other languages are told: if `overbrindle_cusum_run_length` tells the reading n, then the nth of any next n finite readings at the level or beyond it has in the array of sides the number of above or both, and for the lower sum that of below or both,
-- and its index among those that `overbrindle_cusum_signal_points` wrote. Assumes nothing.
use mathlib.Core.Path.{◌≡◌, sym, ap, ap₂, subst, ◌∙◌}
use Prim.Native.Nat.{ℕ, ◌+◌, ◌<◌}
use mathlib.Core.Bool.{not}
use mathlib.Core.List.{List, [], ◌∷◌, ◌++◌}
use lib.Dec.{ltb}
use lib.ListN.{get_or}
use lib.Ieee.{Float}
use Rattle.std.specs.Prelude.{Result, Ok, Some}
use Rattle.refusals.specs.declared.Refusal.{Refusal}
use Rattle.floats.specs.Finite.{finite}
use Rattle.refusals.specs.Said.{answered}
use Rattle.charts.specs.Among.{Among}
use Rattle.cusum.specs.declared.Cusum.{Cusum}
use Rattle.charts.specs.Hearing.{heard_as}
use Rattle.cusum.specs.Chart.{tests_of, record_at, signalled}
use Rattle.cusum.specs.RunLength.{heard, run_length}
use Rattle.cusum.specs.Promise.{Lasting}
use Rattle.cusum.proofs.SettingLaws.{passed_accepted}
use Rattle.cusum.proofs.Promise.{in_series}
use Rattle.cusum.proofs.Calls.{heard_one, record_side, signal_points_has}
use Rattle.c_answers.specs.declared.Counted.{Counted}
use Rattle.c_answers.specs.Told.{told_of, counted_as, counted_of, asked_sum, run_length_of, told_left}
use Rattle.c_answers.proofs.ReadBack.{result_counted, count_told}
use Rattle.c_charts.specs.Columns.{Facing}
use Rattle.c_charts.specs.CusumColumns.{cusum_arrays}
use Rattle.c_charts.proofs.SideArrays.{cusum_told, cusum_side, facing_number, facing_some}

-- ---- what the number 0 tells
-- a run length
told_heard : (c : Cusum) (v : Float) (asked n : ℕ) → counted_as 0 n ≡ counted_of (run_length_of c v asked) → 0 < n → heard_as (Ok (Some n)) ≡ run_length c v (asked_sum asked)
unfolding run_length_of run_length told_of
told_heard c v asked n e h =
    let l = heard c v (asked_sum asked) in
    let a = result_counted ((not (ltb asked 2), Refusal.Form) ∷ []) (run_length c v (asked_sum asked)) n e in
    let b = result_counted (tests_of c ++ ((not (finite v), Refusal.NonFinite 0 0) ∷ [])) (answered l) n a.1 in
    ap answered (sym (heard_one c v (asked_sum asked) n (sym (ap (λ (t : Counted). t.count) b.1)) h)) ∙ sym b.0

-- ---- the promise: the reading `n` is told of the sum with the number `asked`, and the reading at `p + d` is, counted from `p`, the `n`th finite one
module _ (c : Cusum) (v : Float) (asked n : ℕ) (told_at : counted_as 0 n ≡ counted_of (run_length_of c v asked)) (some : 0 < n) (xs : List Float) (p d : ℕ) (lasting : Lasting (asked_sum asked) v xs p d n) where
  pub array_side : (upper lower upper' lower' : List Float) (side index side' index' : List ℕ) (count : ℕ)
      → ◌≡◌ {A = Counted × List Float × List Float × List ℕ × List ℕ} (counted_as 0 count, upper', lower', side', index') (cusum_arrays c xs upper lower side index) → Facing (asked_sum asked) (get_or side' (p + d) 0)
  array_side upper lower upper' lower' side index side' index' count a =
      let told = cusum_told c xs upper lower upper' lower' side index side' index' count a in
      subst (Facing (asked_sum asked)) (sym (cusum_side c xs upper lower upper' lower' side index side' index' count a (p + d) (in_series xs (p + d) lasting.last)))
      (facing_number (asked_sum asked) (record_at c xs (p + d)).side (record_side c v (asked_sum asked) n (told_heard c v asked n told_at some) xs p d lasting (passed_accepted c told.0)))

  -- so that it is not 0
  pub array_signals : (upper lower upper' lower' : List Float) (side index side' index' : List ℕ) (count : ℕ)
      → ◌≡◌ {A = Counted × List Float × List Float × List ℕ × List ℕ} (counted_as 0 count, upper', lower', side', index') (cusum_arrays c xs upper lower side index) → 0 < get_or side' (p + d) 0
  array_signals upper lower upper' lower' side index side' index' count a =
      facing_some (asked_sum asked) (get_or side' (p + d) 0) (array_side upper lower upper' lower' side index side' index' count a)

  pub points_have : (entry exit : List ℕ) (count : ℕ) → ◌≡◌ {A = Counted × List ℕ} (counted_as 0 count, exit) (told_left (signalled c xs entry)) → Among exit count (p + d)
  points_have entry exit count a =
      let answer = count_told (signalled c xs entry).0 count (ap (λ (o : Counted × List ℕ). o.0) a) in
      signal_points_has c v (asked_sum asked) n (told_heard c v asked n told_at some) xs p d lasting entry exit count (ap₂ (λ (r : Result ℕ Refusal) (l : List ℕ). (r, l)) (sym answer) (ap (λ (o : Counted × List ℕ). o.1) a))
