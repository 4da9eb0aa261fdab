-- `inequality::pruned::partition_pruned` meets its contract, whether the search fits or not. Assumes nothing.
use mathlib.Core.Path.{refl, sym, ◌∙◌}
use mathlib.Core.List.{◌++◌}
use native.Mathlib.Omega.{arith}
use Rattle.search_rules.proofs.RoomLaws.{fits_series, fits_room}
use Rattle.sums.proofs.ChannelLaws.{sums_small}
use Rattle.inequality.proofs.PrunedLaws.{series_of, fits_of, plan_room, pruned_found, pruned_kept, as_long}
use Rattle.inequality.proofs.pruned.partition_pruned.Goals as goal

pub overflow_mul-f-then-search_fits : goal.overflow_mul-f-then-search_fits
overflow_mul-f-then-search_fits c = let s = series_of _ _ _ _ _ _ c.search_fits.ensures c.if-search_fits.true in omega (arith, sums_small c.args.n c.args.channels s.few s.short)

pub overflow_add-plan : goal.overflow_add-plan
overflow_add-plan c = let s = series_of _ _ _ _ _ _ c.search_fits.ensures c.if-search_fits.true in omega (arith, sums_small c.args.n c.args.channels s.few s.short)

pub overflow_add-w : goal.overflow_add-w
overflow_add-w c = let s = series_of _ _ _ _ _ _ c.search_fits.ensures c.if-search_fits.true in omega arith

pub overflow_mul-f : goal.overflow_mul-f
overflow_mul-f c = let s = series_of _ _ _ _ _ _ c.search_fits.ensures c.if-search_fits.true in omega arith

pub begin-requires : goal.begin-requires
begin-requires c =
    let fits = fits_of _ _ _ _ _ _ c.search_fits.ensures c.if-search_fits.true in
    let s = fits_series _ _ _ _ _ _ fits in
    (plan_room _ _ _ _ _ _ _ _ _ _ _ s (fits_room _ _ _ _ _ _ fits) refl refl refl, s.readings)

pub search-requires : goal.search-requires
search-requires c =
    let s = c.split_at_mut-parts.ensures in
    let i = c.split_at_mut-predecessors.ensures in
    (rw (← s.value, ← i.value) c.begin.ensures, s.front_len, i.front_len, (series_of _ _ _ _ _ _ c.search_fits.ensures c.if-search_fits.true).ripe)

pub returns-then-search_fits : goal.returns-then-search_fits
returns-then-search_fits c =
    let a = c.args in
    let q = c.search in
    let g = c.begin in
    let s = c.split_at_mut-parts.ensures in
    let i = c.split_at_mut-predecessors.ensures in
    pruned_found _ a.run.now a.floats.now (q.new.parts ++ q.new.weights) c.clear.new.area a.indices.now (q.new.predecessors ++ q.new.candidates) c.clear-then-search_fits.new.area q.result _ _ _ (fits_of _ _ _ _ _ _ c.search_fits.ensures c.if-search_fits.true) q.ensures (as_long _ _ _ _ _ q.auto.parts q.auto.weights s.value g.auto.floats) (as_long _ _ _ _ _ q.auto.predecessors q.auto.candidates i.value g.auto.indices) c.clear.ensures refl c.clear-then-search_fits.ensures refl refl

pub returns-else-search_fits : goal.returns-else-search_fits
returns-else-search_fits c = pruned_kept (sym c.search_fits.ensures ∙ c.if-search_fits.false)
