use Rattle.std.proofs.Common.{◌≡◌, length, length-take, sym, ◌∙◌, arith, ◌+◌}
use borrow.Author.Tests.{eqb-true, eqb-false}
use Rattle.sums.proofs.ChannelLaws.{sums_small}
use Rattle.search_rules.proofs.RoomLaws.{fits_series, fits_room, split_floats}
use Rattle.functional.proofs.ChannelLaws.{range_of_task}
use Rattle.functional.proofs.PartitionLaws.{no_slot, ran, front_part}
use Rattle.functional.proofs.partition.search_all.Goals as goal

pub returns-then-is_empty : goal.returns-then-is_empty
returns-then-is_empty c =
    let none : length c.as_chunks_mut-slots.result.0.now ≡ 0 = eqb-true _ _ (sym c.is_empty.ensures ∙ c.if-is_empty.true) in
    no_slot _ _ _ (omega (arith, none, c.as_chunks_mut-slots.ensures.front_len))

pub overflow_add-n : goal.overflow_add-n
overflow_add-n c = let s = fits_series _ _ _ _ _ _ c.requires.2 in omega (arith, s.short)

pub overflow_mul-n : goal.overflow_mul-n
overflow_mul-n c = let s = fits_series _ _ _ _ _ _ c.requires.2 in omega (arith, s.short)

pub overflow_mul-channels : goal.overflow_mul-channels
overflow_mul-channels c =
    let a = c.args in
    let s = fits_series _ _ _ _ _ _ c.requires.2 in
    omega (arith, sums_small a.n a.channels s.few s.short)

pub split_at_mut-sums-requires : goal.split_at_mut-sums-requires
split_at_mut-sums-requires c =
    let a = c.args in
    omega (arith, (fits_room _ _ _ _ _ _ c.requires.2).floats, split_floats a.channels (a.n + 1))

pub split_at_mut-last-requires : goal.split_at_mut-last-requires
split_at_mut-last-requires c = omega (arith, (fits_room _ _ _ _ _ _ c.requires.2).indices)

pub slice_bounds-f-end : goal.slice_bounds-f-end
slice_bounds-f-end c =
    let a = c.args in
    sym (length-take (a.n + 1) _ ∙ omega (arith, c.split_at_mut-sums.ensures.back_len, (fits_room _ _ _ _ _ _ c.requires.2).floats, split_floats a.channels (a.n + 1)))

pub sum_channels-range-requires : goal.sum_channels-range-requires
sum_channels-range-requires c =
    let p = c.requires in
    let s = fits_series _ _ _ _ _ _ p.2 in
    (p.0, p.1, s.short, s.readings, omega (arith, c.split_at_mut-sums.ensures.front_len))

pub search_in-requires : goal.search_in-requires
search_in-requires c =
    let a = c.args in
    let p = c.requires in
    let s = fits_series _ _ _ _ _ _ p.2 in
    let r = fits_room _ _ _ _ _ _ p.2 in
    let k = c.sum_channels-range in
    let some : length c.as_chunks_mut-slots.result.0.now ≡ 0 → ⊥ = eqb-false _ _ (sym c.is_empty.ensures ∙ c.if-is_empty.false) in (
      record {
        short = s.short;
        one = p.0;
        two = p.1;
        some = s.some;
        ripe = s.ripe;
        room = omega (arith, k.auto.floats, c.split_at_mut-sums.ensures.front_len);
        sums = k.ensures.1;
        range = k.ensures.0 ∙ range_of_task a.run.now a.n a.channels a.m a.penalty;
      },
      length-take (a.n + 1) _ ∙ omega (arith, c.split_at_mut-sums.ensures.back_len, r.floats, split_floats a.channels (a.n + 1)),
      c.split_at_mut-last.ensures.front_len,
      omega (arith, c.split_at_mut-last.ensures.back_len, r.indices),
      omega (arith, some),
    )

pub returns : goal.returns
returns c =
    ran c.search_in.ensures c.as_chunks_mut-slots.ensures.front_len (front_part _ _ _ (c.search_in.auto.last ∙ c.split_at_mut-last.ensures.front_len))
