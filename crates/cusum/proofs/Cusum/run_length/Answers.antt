-- `cusum::Cusum::run_length` meets its contract. Assumes nothing.
use mathlib.Core.Path.{◌≡◌, sym, ap, ◌∙◌}
use mathlib.Core.Bool.{true, false, not}
use mathlib.Core.List.{[], ◌∷◌}
use borrow.Author.Rules.{rules}
use lib.Ieee.{Float}
use Rattle.std.specs.Prelude.{Result, Ok, Err, ⊤}
use Rattle.floats.specs.Finite.{finite}
use Rattle.refusals.specs.declared.Refusal.{Refusal}
use Rattle.refusals.specs.Tried.{tried}
use Rattle.refusals.specs.Said.{Said, refusing, answered}
use Rattle.charts.specs.declared.Sum.{Sum}
use Rattle.charts.specs.Hearing.{heard_as}
use Rattle.charts.specs.Settings.{setting_tests, tested_as, after_settings}
use Rattle.charts.proofs.SettingLaws.{tested_first}
use Rattle.cusum.specs.declared.Cusum.{Cusum}
use Rattle.cusum.specs.Chart.{in_range, tests_of}
use Rattle.cusum.specs.RunLength.{heard, run_length}
use Rattle.cusum.proofs.Cusum.run_length.Goals as goal

-- what is said once the settings `s` are tested
abbrev after : Cusum → Float → Sum → Result ⊤ Refusal → Said
after c v asked s = after_settings refusing s (tried refusing ((not (finite v), Refusal.NonFinite 0 0) ∷ []) (answered (heard c v asked)))

run_length_after : (c : Cusum) (v : Float) (asked : Sum) (s : Result ⊤ Refusal) → s ≡ tested_as (setting_tests (in_range c)) → after c v asked s ≡ run_length c v asked
unfolding run_length tests_of
run_length_after c v asked s e = ap (after c v asked) e ∙ tested_first refusing (tests_of c) ((not (finite v), Refusal.NonFinite 0 0) ∷ []) (answered (heard c v asked))

pub returns-in_err-tested : goal.returns-in_err-tested
returns-in_err-tested c =
    let a = c.args in
    let r : c.from_residual.result ≡ Err c.in_err-tested.field-0.0 = search rules in
    ap heard_as r ∙ run_length_after a.self a.level a.asked (Err c.in_err-tested.field-0.0) (rw c.in_range.ensures at c.in_err-tested.ensures)

pub returns-then-not-finite : goal.returns-then-not-finite
unfolding tried
returns-then-not-finite c =
    let a = c.args in
    let f : finite a.level ≡ false = sym c.if-not-finite.ensures in
    rw f at (run_length_after a.self a.level a.asked (Ok c.in_ok-tested.field-0) (rw c.in_range.ensures at c.in_ok-tested.ensures))

pub returns : goal.returns
unfolding tried
returns c =
    let a = c.args in
    let f : finite a.level ≡ true = sym c.if-not-finite.ensures in
    c.listen.ensures ∙ rw f at (run_length_after a.self a.level a.asked (Ok c.in_ok-tested.field-0) (rw c.in_range.ensures at c.in_ok-tested.ensures))
