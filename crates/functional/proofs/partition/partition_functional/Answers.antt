use mathlib.Core.Path.{refl, sym, ◌∙◌}
use native.Mathlib.Omega.{arith}
use Rattle.search_rules.proofs.RoomLaws.{fits_series}
use Rattle.functional.proofs.PartitionLaws.{fit_one, fit_two, fit_search, partitioned, unfit}
use Rattle.functional.proofs.partition.partition_functional.Goals as goal

pub task_fits-requires : goal.task_fits-requires
task_fits-requires c = tt

pub search_all-done-requires : goal.search_all-done-requires
search_all-done-requires c =
    let e = sym c.task_fits.ensures ∙ c.if-task_fits.true in
    (fit_one _ _ _ _ _ _ e, fit_two _ _ _ _ _ _ e, fit_search _ _ _ _ _ _ e)

pub overflow_add-n : goal.overflow_add-n
overflow_add-n c =
    let e = sym c.task_fits.ensures ∙ c.if-task_fits.true in
    let s = fits_series _ _ _ _ _ _ (fit_search _ _ _ _ _ _ e) in
    omega (arith, s.short)

pub kept_front-requires : goal.kept_front-requires
kept_front-requires c = tt

pub shape_of-floats-then-task_fits : goal.shape_of-floats-then-task_fits
shape_of-floats-then-task_fits c = c.clear.auto.area ∙ c.search_all-done.auto.floats

pub shape_of-indices-then-task_fits : goal.shape_of-indices-then-task_fits
shape_of-indices-then-task_fits c = c.clear-then-task_fits-2.auto.area ∙ c.search_all-done.auto.indices

pub shape_of-pool-then-task_fits : goal.shape_of-pool-then-task_fits
shape_of-pool-then-task_fits c = c.clear-then-task_fits.auto.area ∙ c.search_all-done.auto.pool

pub returns-then-task_fits : goal.returns-then-task_fits
returns-then-task_fits c =
    let a = c.args in
    let v = c.search_all-done in
    partitioned _ a.floats.now v.new.floats _ a.indices.now v.new.indices _ a.pool.now v.new.pool _ v.result _ _ _ _ (sym c.task_fits.ensures ∙ c.if-task_fits.true) v.ensures v.auto.floats v.auto.indices v.auto.pool c.clear.ensures refl c.clear-then-task_fits.ensures refl c.clear-then-task_fits-2.ensures c.kept_front.ensures refl

pub returns : goal.returns
returns c = unfit (sym c.task_fits.ensures ∙ c.if-task_fits.false)
